use Rattle.std.proofs.Common.{sym, subst}
use Rattle.std.proofs.lemmas.Result.{IfOk-weaker}
use Rattle.ror_statement.specs.Statements.{statements_in}
use Rattle.ror_value.specs.Over.{IsAskedIn}
use Rattle.ror_statement.specs.declared.question.Question.{Question}
use Rattle.ror_check.specs.Proof.{IsProvedAnswer}
use Rattle.ror_show_find_core.specs.Withdrawals.{IsOver}
use Rattle.ror_show_find_core.proofs.Judging.{stays_so}
use Rattle.ror_show_find_core.proofs.withdrawing.stay.Goals as goal

pub reduct_of-requires-clause-asked : goal.reduct_of-requires-clause-asked
reduct_of-requires-clause-asked c = subst (IsAskedIn c.args.table.now) (sym c.requires.proved.question) c.requires.left.asked

pub reduct_of-requires-clause-proved : goal.reduct_of-requires-clause-proved
reduct_of-requires-clause-proved c =
    subst (λ (q : Question). IsProvedAnswer c.args.table.now (statements_in c.args.left.now) q c.args.answer.now) (sym c.requires.proved.question) c.requires.proved

pub returns : goal.returns
returns c =
    IfOk-weaker c.staying-outcome.result _ _
    (λ outcome is. subst (IsOver c.args.table.now c.args.left.now c.args.claim.question c.args.claim.conclusion) (sym is)
    (stays_so c.args.table.now c.args.left.now c.args.claim.question c.args.claim.conclusion c.args.answer.now c.in_ok-reason.reason c.requires.left c.requires.proved.question c.requires.concludes c.in_ok-reason.ensures.reason))
    c.staying-outcome.ensures
