-- What answers say of whether some function agrees is true.
use Rattle.std.proofs.Common.{◌≡◌, List, Option, Some, None, refl}
use Rattle.std.specs.List.{find}
use Rattle.ror_statement.specs.declared.question.Question.{Question}
use Rattle.ror_statement.specs.declared.statement.Statement.{Statement}
use Rattle.ror_table.specs.Table.{DecisionTable}
use Rattle.ror_proof.specs.declared.answer.Answer.{Answer}
use Rattle.ror_proof.specs.declared.answer.Verdict.{Verdict}
use Rattle.ror_proof.specs.declared.answer.Verdict.TheVariants as verdicts
use Rattle.ror_check.specs.Proof.{IsWideOrTrue}
use Rattle.ror_show_ground.specs.Said.{said_by}
use Rattle.ror_show_find_relation.specs.CellLaws.{AreTrueAnswers}
use Rattle.ror_show_find_whatif.specs.Agreement.{agreement_in, agreement_of, agreement_by, is_concluded}
use Rattle.ror_show_find_whatif.specs.Meaning.{AgreementSays}
use Rattle.ror_show_find_whatif.proofs.Placing.{found_has}

by_verdict : (t : DecisionTable) (list : List Statement) (q : Question) (v : Verdict) → IsWideOrTrue t list q v → AgreementSays t list (agreement_in (said_by v))
by_verdict t list q (verdicts.Yes proof) is = is.0
by_verdict t list q (verdicts.No proof) is = is.0
by_verdict t list q (verdicts.Contradiction proof) is = is
by_verdict t list q (verdicts.Wide system note) is = tt

by_found : (t : DecisionTable) (list : List Statement) (xs : List Answer) (o : Option Answer) → AreTrueAnswers t list xs → find is_concluded xs ≡ o → AgreementSays t list (agreement_of o)
by_found t list xs (Some x) all is = by_verdict t list x.question x.verdict (found_has (λ (y : Answer). IsWideOrTrue t list y.question y.verdict) is_concluded xs x all is)
by_found t list xs None all is = tt

pub agreement_says : (t : DecisionTable) (list : List Statement) (xs : List Answer) → AreTrueAnswers t list xs → AgreementSays t list (agreement_by xs)
agreement_says t list xs all = by_found t list xs (find is_concluded xs) all refl
