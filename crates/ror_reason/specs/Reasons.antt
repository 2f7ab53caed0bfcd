-- Why an answer over a list is what it is, at a width.
use Rattle.std.specs.Prelude.{◌≡◌, ◌⊎◌, ℕ, Bool, true, false, List, length, slice_get, Some}
use Rattle.std.specs.List.{AllByRecursion, list_any}
use Rattle.ror_statement.specs.declared.statement.Numbered.{Numbered}
use Rattle.ror_statement.specs.declared.question.QuestionKind.{QuestionKind}
use Rattle.ror_statement.specs.declared.question.QuestionKind.TheVariants.{Plain, Any, Every}
use Rattle.ror_statement.specs.declared.question.Property.{Property}
use Rattle.ror_statement.specs.declared.question.Property.TheVariants.{InClass}
use Rattle.ror_statement.specs.declared.question.Question.{Question}
use Rattle.ror_statement.specs.declared.question.Conclusion.{Conclusion}
use Rattle.ror_statement.specs.declared.question.Conclusion.TheVariants.{Yes, No}
use Rattle.ror_statement.specs.Statements.{statements_in}
use Rattle.ror_statement.specs.Questions.{kind_of, property_of}
use Rattle.ror_table.specs.Table.{DecisionTable}
use Rattle.ror_value.specs.Meaning.{Answers}
use Rattle.ror_proof.specs.declared.answer.Answer.{Answer}
use Rattle.ror_check.specs.Proof.{IsProvedAnswer, IsAllowedAnswer, IsWideAt, is_wide}
use Rattle.ror_check.specs.Repair.{AreNumbersIn}
use Rattle.ror_given.specs.Notes.{HasNoteAt}
use Rattle.ror_given.specs.Answers.{IsVerdictWithin}
use Rattle.ror_reason.specs.declared.reducts.Reason.{Reason}
use Rattle.ror_reason.specs.declared.reducts.Reason.TheVariants as reasons
use Rattle.ror_reason.specs.Reducts.{stated, without, RestsOnPart, IsReduct, Concludes, IsProvedReduct}

-- ---- answers that no statement carries

-- one function shows that some one is compatible, and that some compatible one has what is asked
abbrev pub one_has : QuestionKind → Conclusion → Bool
one_has Plain Yes = true
one_has Any Yes = true
one_has _ _ = false

-- one shows that not every compatible one has it
abbrev pub one_lacks : QuestionKind → Conclusion → Bool
one_lacks Every No = true
one_lacks _ _ = false

-- Every compatible function leaves the alternative the class. Over no statements each of the table's classes is left, and
-- what is assigned takes classes away.
abbrev pub leaves_class : QuestionKind → Property → Conclusion → Bool
leaves_class Every (InClass a h) Yes = true
leaves_class _ _ _ = false

-- the answer over the whole list has its proof, and concludes this
pub record IsProvedSo (t : DecisionTable) (list : List Numbered) (q : Question) (c : Conclusion)
    (x : Answer) : Type 0 where
  pub proved : IsProvedAnswer t (statements_in list) q x
  pub concludes : Concludes c x.verdict

-- ---- where a part of the list is too wide

-- the answer over the part without this statement may be given at the width, and isn't the same: it is another with its
-- proof, or it concludes nothing
abbrev pub IsGivenOther : ℕ → DecisionTable → List Numbered → Question → Conclusion → List ℕ
    → ℕ → Answer → Type 0
IsGivenOther most t list q c ns n other =
    IsAllowedAnswer (HasNoteAt most) t (stated (without n ns) list) q other
    × (Concludes c other.verdict → ⊥)

-- such an answer stands at the place of each number
pub record AreGivenOthers (most : ℕ) (t : DecisionTable) (list : List Numbered) (q : Question)
    (c : Conclusion) (ns : List ℕ) (others : List Answer) : Type 0 where
  pub as_many : length others ≡ length ns
  pub each : (k n : ℕ) (other : Answer) → slice_get ns k ≡ Some n → slice_get others k ≡ Some other
      → IsGivenOther most t list q c ns n other

-- The part of these numbers has the answer, which has its proof. Some answer beside a number concludes nothing.
pub record IsWideReason (most : ℕ) (t : DecisionTable) (list : List Numbered) (q : Question)
    (c : Conclusion) (ns : List ℕ) (x : Answer) (others : List Answer) : Type 0 where
  pub rests : RestsOnPart q c
  pub numbers : AreNumbersIn list ns
  pub concludes : Concludes c x.verdict
  pub answer : IsProvedAnswer t (stated ns list) q x
  pub carries : Answers t (stated ns list) q c
  pub given : AreGivenOthers most t list q c ns others
  pub some_wide : list_any (λ other. is_wide other.verdict) others ≡ true

-- ---- reasons

-- the reason of an answer that concludes this over the list
abbrev pub IsReasonOf : ℕ → DecisionTable → List Numbered → Question → Conclusion → Reason → Type 0
IsReasonOf most t list q c (reasons.Carried x) =
    IsProvedReduct t list q c x × IsReduct t list q c x.numbers
IsReasonOf most t list q c (reasons.Wide ns x others) = IsWideReason most t list q c ns x others
IsReasonOf most t list q c (reasons.OneHas x) =
    (one_has (kind_of q) c ≡ true) × IsProvedSo t list q c x
IsReasonOf most t list q c (reasons.OneLacks x) =
    (one_lacks (kind_of q) c ≡ true) × IsProvedSo t list q c x
IsReasonOf most t list q c (reasons.ClassLeft x) =
    (leaves_class (kind_of q) (property_of q) c ≡ true) × IsProvedSo t list q c x
IsReasonOf most t list q c (reasons.WhollyWide system note) = ⊥

-- nothing is concluded over the whole list, where the system has the note
abbrev pub IsWhollyWide : ℕ → DecisionTable → List Numbered → Question → Reason → Type 0
IsWhollyWide most t list q (reasons.WhollyWide system note) =
    IsWideAt (HasNoteAt most) t (statements_in list) q system note
IsWhollyWide most t list q _ = ⊥

-- it is the reason of the answer over the list, or nothing is concluded there
abbrev pub IsReason : ℕ → DecisionTable → List Numbered → Question → Reason → Type 0
IsReason most t list q r = ((c : Conclusion) × Answers t (statements_in list) q c
    × IsReasonOf most t list q c r) ⊎ IsWhollyWide most t list q r

-- no number of a certificate in the reason passes most
abbrev pub IsReasonWithin : ℕ → Reason → Type 0
IsReasonWithin most (reasons.Carried x) = IsVerdictWithin most x.answer.verdict
    × AllByRecursion (λ other. IsVerdictWithin most other.verdict) x.others
IsReasonWithin most (reasons.Wide ns x others) = IsVerdictWithin most x.verdict
    × AllByRecursion (λ other. IsVerdictWithin most other.verdict) others
IsReasonWithin most (reasons.OneHas x) = IsVerdictWithin most x.verdict
IsReasonWithin most (reasons.OneLacks x) = IsVerdictWithin most x.verdict
IsReasonWithin most (reasons.ClassLeft x) = IsVerdictWithin most x.verdict
IsReasonWithin most (reasons.WhollyWide system note) = Unit {0}
