use Rattle.std.proofs.Common.{◌≢◌, List, subst}
use Rattle.std.specs.Prelude.{IfErr}
use Rattle.std.specs.List.{AllByRecursion}
use Rattle.ror_statement.specs.declared.statement.Statement.{Statement}
use Rattle.ror_proof.specs.declared.answer.Answer.{Answer}
use Rattle.ror_check.specs.declared.fault.AnswersFault.TheVariants.{Memory}
use Rattle.ror_check.specs.Proof.{IsWideOrProved, base_system}
use Rattle.ror_check.specs.Steps.{IsBaseOf}
use Rattle.ror_check.proofs.answers.AnswersChecker.check.Goals as goal

pub returns-clause-not_proved : goal.returns-clause-not_proved
returns-clause-not_proved c =
    let t = c.args.table.now in
    subst (λ (list : List Statement). IfErr c.check_each-checked.result (λ e. e ≢ Memory → AllByRecursion (λ (x : Answer). IsWideOrProved t list x.question x.verdict) c.args.answers.now → ⊥)) c.as_slice-2.ensures.value c.check_each-checked.ensures.not_proved

pub returns-clause-kept : goal.returns-clause-kept
returns-clause-kept c =
    let t = c.args.table.now in
    subst (λ (list : List Statement). IsBaseOf (base_system t list) c.check_each-checked.new.base) c.as_slice-2.ensures.value c.check_each-checked.ensures.base
