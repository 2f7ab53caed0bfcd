use Rattle.std.proofs.Common.{ℕ, List, Option, sym, subst}
use Rattle.std.proofs.lemmas.Bool.{ltb-true}
use Rattle.std.proofs.lemmas.Result.{IfOk-weaker}
use Rattle.ror_statement.specs.Statements.{statements_in}
use Rattle.ror_check.proofs.Checking.{slice_get-at}
use Rattle.ror_text.proofs.Everywhere.{all_at}
use Rattle.ror_proof.specs.declared.answer.Answer.{Answer}
use Rattle.ror_show_ground.specs.Sound.{IsSoundAnswer}
use Rattle.ror_show_find_core.specs.Cores.{carried_conclusion, IsCoreOf, IsCoreWhere}
use Rattle.ror_show_find_core.proofs.Lists.{past}
use Rattle.ror_show_find_core.proofs.cores.find_core.Goals as goal

pub core_of-requires-clause-sound : goal.core_of-requires-clause-sound
core_of-requires-clause-sound c =
    let s = c.args.stood.now in
    let n = c.args.told.now.answer in
    let x = c.in-Some.answer.now in
    all_at (IsSoundAnswer s.table.now (statements_in s.list.now)) s.answers.now n x c.requires.sound (slice_get-at s.answers.now n x (ltb-true n _ (sym c.in-Some.ensures.lookup.0)) c.in-Some.ensures.lookup.1)

pub returns-in-Some : goal.returns-in-Some
returns-in-Some c =
    let s = c.args.stood.now in
    let n = c.args.told.now.answer in
    let x = c.in-Some.answer.now in
    let there = slice_get-at s.answers.now n x (ltb-true n _ (sym c.in-Some.ensures.lookup.0)) c.in-Some.ensures.lookup.1 in
    IfOk-weaker c.core_of.result _ _
    (λ f is. subst (λ (o : Option Answer). IsCoreWhere s.table.now s.list.now c.args.told.now.reason o f) (sym there)
    (subst (λ (ns : List ℕ). IsCoreOf s.table.now s.list.now x.question ns (carried_conclusion x.question x.verdict) f) c.named_by.ensures is))
    c.core_of.ensures

pub returns-in-None : goal.returns-in-None
returns-in-None c =
    let s = c.args.stood.now in
    subst (λ (o : Option Answer). IsCoreWhere s.table.now s.list.now c.args.told.now.reason o c.no_core.result) (sym (past s.answers.now c.args.told.now.answer c.in-None.ensures.lookup.0)) c.no_core.ensures
