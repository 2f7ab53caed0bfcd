-- What each step of a search leaves to the next.
use Rattle.std.specs.Prelude.{◌≡◌, ℕ, ◌<◌, List, [], ◌∷◌, length, slice_get, Some}
use Rattle.std.specs.List.{AllByRecursion}
use Rattle.std.specs.List.Sorted.{IsStrictlyIncreasing}
use Rattle.ror_statement.specs.declared.statement.Numbered.{Numbered}
use Rattle.ror_statement.specs.declared.question.Question.{Question}
use Rattle.ror_statement.specs.declared.question.QuestionKind.{QuestionKind}
use Rattle.ror_statement.specs.declared.question.QuestionKind.TheVariants.{Every}
use Rattle.ror_statement.specs.declared.question.Conclusion.{Conclusion}
use Rattle.ror_statement.specs.declared.question.Conclusion.TheVariants.{No}
use Rattle.ror_statement.specs.Statements.{numbers_in, statements_in}
use Rattle.ror_table.specs.Table.{DecisionTable}
use Rattle.ror_value.specs.Over.{IsLawfulIn, IsAskedIn}
use Rattle.ror_pivot.specs.Answers.{most_of}
use Rattle.ror_proof.specs.declared.answer.Answer.{Answer}
use Rattle.ror_proof.specs.declared.answer.Verdict.{Verdict}
use Rattle.ror_check.specs.Proof.{IsProvedAnswer}
use Rattle.ror_check.specs.Repair.{AreNumbersIn}
use Rattle.ror_given.specs.Answers.{IsVerdictWithin, IsGiven}
use Rattle.ror_reason.specs.declared.reducts.Reason.{Reason}
use Rattle.ror_reason.specs.declared.reducts.Reason.TheVariants as reasons
use Rattle.ror_reason.specs.declared.sought.Sought.{Sought}
use Rattle.ror_reason.specs.declared.sought.Part.{Part}
use Rattle.ror_reason.specs.declared.search.Others.{Others}
use Rattle.ror_reason.specs.declared.search.Others.TheVariants as others
use Rattle.ror_reason.specs.Reducts.{stated, RestsOnPart, Concludes}
use Rattle.ror_reason.specs.Reasons.{IsGivenOther, IsReasonOf, IsReasonWithin}

-- the answer over the list has its proof, and is one that statements carry
pub record IsSought (s : Sought) : Type 0 where
  pub lawful : IsLawfulIn s.table.now (statements_in s.list.now)
  pub rising : IsStrictlyIncreasing (numbers_in s.list.now)
  pub asked : IsAskedIn s.table.now s.answer.now.question
  pub proved : IsProvedAnswer s.table.now (statements_in s.list.now) s.answer.now.question s.answer.now
  pub concludes : Concludes s.conclusion s.answer.now.verdict
  pub rests : RestsOnPart s.answer.now.question s.conclusion

-- no number of the answer passes the width, where none of the one over the list does
abbrev pub IsNarrow : Sought → Verdict → Type 0
IsNarrow s v = IsVerdictWithin (most_of s.bits) s.answer.now.verdict → IsVerdictWithin (most_of s.bits) v

-- the answer over the part of these numbers, decided at the width
abbrev pub IsDecided : Sought → List ℕ → Answer → Type 0
IsDecided s ns x = IsGiven (most_of s.bits) s.table.now (stated ns s.list.now) s.answer.now.question x

-- the part of these numbers, with the answer over it alone
pub record IsDecidedPart (s : Sought) (ns : List ℕ) (part : Part) : Type 0 where
  pub answer : Answer
  pub is_alone : part.answers.items ≡ answer ∷ []
  pub numbers : part.numbers.items ≡ ns
  pub given : IsDecided s ns answer

-- the one answer concludes this
abbrev pub HasAnswer : Conclusion → List Answer → Type 0
HasAnswer c [] = ⊥
HasAnswer c (x ∷ xs) = Concludes c x.verdict

-- the numbers name a part of the list, over which the answer is the one that is sought
pub record IsPartOf (s : Sought) (ns : List ℕ) (x : Answer) : Type 0 where
  pub numbers : AreNumbersIn s.list.now ns
  pub concludes : Concludes s.conclusion x.verdict
  pub proved : IsProvedAnswer s.table.now (stated ns s.list.now) s.answer.now.question x
  pub narrow : IsNarrow s x.verdict

-- such a part, with its answer alone
pub record IsPart (s : Sought) (part : Part) : Type 0 where
  pub answer : Answer
  pub is_alone : part.answers.items ≡ answer ∷ []
  pub carries : IsPartOf s part.numbers.items answer

-- the answer beside a number is given at the width, and isn't the one that is sought
abbrev pub IsOther : Sought → List ℕ → ℕ → Answer → Type 0
IsOther s ns n other =
    IsGivenOther (most_of s.bits) s.table.now s.list.now s.answer.now.question s.conclusion ns n other
    × IsVerdictWithin (most_of s.bits) other.verdict

-- each answer stands beside its number, from the first on
pub record AreOthersBefore (s : Sought) (ns : List ℕ) (xs : List Answer) (i : ℕ) : Type 0 where
  pub as_many : length xs ≡ i
  pub each : (k n : ℕ) (other : Answer) → slice_get ns k ≡ Some n → slice_get xs k ≡ Some other
      → IsGivenOther (most_of s.bits) s.table.now s.list.now s.answer.now.question s.conclusion ns n other
  pub narrow : AllByRecursion (λ other. IsVerdictWithin (most_of s.bits) other.verdict) xs

-- what all parts without a number come to
abbrev pub AreOthers : Sought → List ℕ → Others → Type 0
AreOthers s ns (others.Smaller part) = IsPart s part × (length part.numbers.items < length ns)
AreOthers s ns (others.All xs) = AreOthersBefore s ns xs.items (length ns)

-- the reason of the answer that is sought, within the width where that is
abbrev pub IsFound : Sought → Reason → Type 0
IsFound s r = IsReasonOf (most_of s.bits) s.table.now s.list.now s.answer.now.question s.conclusion r
    × (IsVerdictWithin (most_of s.bits) s.answer.now.verdict → IsReasonWithin (most_of s.bits) r)

-- the answer to the question over the list may be given at the width, and stands alone
pub record IsAnswered (most : ℕ) (t : DecisionTable) (list : List Numbered) (q : Question)
    (answers : List Answer) : Type 0 where
  pub answer : Answer
  pub is_alone : answers ≡ answer ∷ []
  pub given : IsGiven most t (statements_in list) q answer

-- the reason of an answer that no statement carries
abbrev pub decided_by : QuestionKind → Conclusion → Answer → Reason
decided_by _ No x = reasons.OneLacks x
decided_by Every _ x = reasons.ClassLeft x
decided_by _ _ x = reasons.OneHas x
