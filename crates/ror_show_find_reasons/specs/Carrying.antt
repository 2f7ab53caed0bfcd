-- Which statements carry an answer, and why an answer is what it is, at the greatest width.
use Rattle.std.specs.Prelude.{◌≡◌, ℕ, Bool, true, false, List, Option, Some, None}
use Rattle.ror_statement.specs.declared.statement.Numbered.{Numbered}
use Rattle.ror_statement.specs.declared.question.Conclusion.TheVariants as conclusions
use Rattle.ror_statement.specs.declared.question.Question.{Question}
use Rattle.ror_statement.specs.Questions.{kind_of, property_of}
use Rattle.ror_table.specs.Table.{DecisionTable}
use Rattle.ror_proof.specs.declared.answer.Answer.{Answer}
use Rattle.ror_proof.specs.declared.answer.Verdict.{Verdict}
use Rattle.ror_proof.specs.declared.answer.Verdict.TheVariants as verdicts
use Rattle.ror_check.specs.Proof.{OfProof}
use Rattle.ror_pivot.specs.declared.note.Bits.TheVariants.{B127}
use Rattle.ror_pivot.specs.Answers.{most_of}
use Rattle.ror_given.specs.Answers.{IsVerdictWithin}
use Rattle.ror_reason.specs.declared.reducts.Reason.{Reason}
use Rattle.ror_reason.specs.declared.reducts.Reason.TheVariants as reasons
use Rattle.ror_reason.specs.Reasons.{IsReasonOf, IsReasonWithin}
use Rattle.ror_reason.specs.Reducts.{rests_on_part}

-- it is the reason of an answer with this verdict, as the greatest width gives it
unfoldable pub IsReasonFor : DecisionTable → List Numbered → Question → Verdict → Reason → Type 0
IsReasonFor t list q v reason = OfProof (λ c proof. IsReasonOf (most_of B127) t list q c reason) v

-- the numbers of a reduct; none where it isn't known which statements can be spared
abbrev pub numbers_of : Reason → Option (List ℕ)
numbers_of (reasons.Carried x) = Some x.numbers
numbers_of _ = None

-- ---- why an answer is what it is

-- its reason, no number of which passes the greatest width where none of the answer does
abbrev pub HasReason : DecisionTable → List Numbered → Question → Verdict → Option Reason → Type 0
HasReason t list q v told = (reason : Reason) × IsReasonFor t list q v reason
    × (IsVerdictWithin (most_of B127) v → IsReasonWithin (most_of B127) reason) × (told ≡ Some reason)

-- none where the answer is too wide
abbrev pub IsTold : DecisionTable → List Numbered → Question → Verdict → Option Reason → Type 0
IsTold t list q (verdicts.Wide system note) told = told ≡ None
IsTold t list q v told = HasReason t list q v told

-- statements carry the answer
abbrev pub is_carried_by : Question → Verdict → Bool
is_carried_by q (verdicts.Yes proof) = rests_on_part (kind_of q) (property_of q) conclusions.Yes
is_carried_by q (verdicts.No proof) = rests_on_part (kind_of q) (property_of q) conclusions.No
is_carried_by q (verdicts.Contradiction proof) = true
is_carried_by q (verdicts.Wide system note) = false

abbrev pub is_carried : Answer → Bool
is_carried x = is_carried_by x.question x.verdict
