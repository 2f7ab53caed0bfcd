-- That answers over the same statements are refused for the first that is not accepted.
use Rattle.std.proofs.Common.{◌≡◌, ◌≢◌, ℕ, suc, ◌+◌, ◌<◌, false, List, [], ◌∷◌, length, get_or, Some, Result, refl, sym, ◌∙◌, subst, arith, inl, inr}
use Rattle.std.specs.Prelude.{slice_get, IfErr}
use Rattle.std.proofs.lemmas.Bool.{cases_lt}
use Rattle.std.specs.List.{AllByRecursion}
use Rattle.ror_text.specs.FirstFault.{IsFirst, IsRefusedBy}
use Rattle.ror_text.proofs.FirstFaultLemmas.{refused_not_passed}
use Rattle.ror_text.proofs.Everywhere.{all_at}
use Rattle.ror_statement.specs.declared.statement.Statement.{Statement}
use Rattle.ror_statement.specs.declared.question.Question.{Question}
use Rattle.ror_table.specs.Table.{DecisionTable}
use Rattle.ror_value.specs.Over.{IsLawfulIn, IsAskedIn}
use Rattle.ror_proof.specs.declared.answer.Answer.{Answer}
use Rattle.ror_check.specs.declared.fault.CheckFault.{CheckFault}
use Rattle.ror_check.specs.declared.fault.CheckFault.TheVariants as faults
use Rattle.ror_check.specs.declared.fault.AnswersFault.{AnswersFault}
use Rattle.ror_check.specs.declared.fault.AnswersFault.TheVariants as answers
use Rattle.ror_proof.specs.declared.answer.Verdict.{Verdict}
use Rattle.ror_proof.specs.declared.answer.Verdict.TheVariants as verdicts
use Rattle.ror_check.specs.Proof.{OfProof, Proves, is_wide, IsWideOrProved, IsWideOrTrue}
use Rattle.ror_check.specs.Faults.{FailsAnswer, FailsVerdict, IsEarlierFault, FailsAnswers, IsEarlierAnswersFault}
use Rattle.ror_check.specs.Steps.{AreProvedBefore, refused_at}
use Rattle.ror_check.proofs.Checking.{some_same, slice_get-at, answer_is_true}
use Rattle.ror_check.proofs.FirstFaults.{answer_refused, passes_each_test}

abbrev IsWideOrHasProof : DecisionTable → List Statement → Answer → Type 0
IsWideOrHasProof t list x = IsWideOrProved t list x.question x.verdict

pub wide_or_proved : (t : DecisionTable) (list : List Statement) (q : Question) (v : Verdict) → OfProof (Proves t list q) v → IsWideOrProved t list q v
wide_or_proved t list q (verdicts.Yes proof) h = h
wide_or_proved t list q (verdicts.No proof) h = h
wide_or_proved t list q (verdicts.Contradiction proof) h = h
wide_or_proved t list q (verdicts.Wide system note) h = tt

pub proved_unless_wide : (t : DecisionTable) (list : List Statement) (q : Question) (v : Verdict) → is_wide v ≡ false → IsWideOrProved t list q v → OfProof (Proves t list q) v
proved_unless_wide t list q (verdicts.Yes proof) concludes h = h
proved_unless_wide t list q (verdicts.No proof) concludes h = h
proved_unless_wide t list q (verdicts.Contradiction proof) concludes h = h
proved_unless_wide t list q (verdicts.Wide system note) concludes h = absurd cc

pub wide_or_true : (t : DecisionTable) (list : List Statement) (q : Question) (v : Verdict) → IsLawfulIn t list → IsAskedIn t q → IsWideOrProved t list q v → IsWideOrTrue t list q v
wide_or_true t list q (verdicts.Yes proof) lawful asked h = answer_is_true t list q (record { question = q; verdict = verdicts.Yes proof }) lawful asked (record { question = refl; proof = h })
wide_or_true t list q (verdicts.No proof) lawful asked h = answer_is_true t list q (record { question = q; verdict = verdicts.No proof }) lawful asked (record { question = refl; proof = h })
wide_or_true t list q (verdicts.Contradiction proof) lawful asked h = answer_is_true t list q (record { question = q; verdict = verdicts.Contradiction proof }) lawful asked (record { question = refl; proof = h })
wide_or_true t list q (verdicts.Wide system note) lawful asked h = tt

pub proved_more : (t : DecisionTable) (list : List Statement) (xs : List Answer) (i : ℕ) (x : Answer) → AreProvedBefore t list xs i → i < length xs → x ≡ get_or xs i x → IsWideOrProved t list x.question x.verdict → AreProvedBefore t list xs (i + 1)
proved_more t list xs i x before within is proved j y lt there =
    elim (cases_lt j i) [
      | inl less ↦ before j y less there
      | inr le ↦
          let j-is : j ≡ i = omega arith in
          let at : slice_get xs j ≡ Some x = rw j-is (slice_get-at xs i x within is) in
          subst (IsWideOrHasProof t list) (some_same (sym at ∙ there)) proved
    ]

pub all_proved : (t : DecisionTable) (list : List Statement) (xs : List Answer) → AreProvedBefore t list xs (length xs) → AllByRecursion (IsWideOrHasProof t list) xs
all_proved t list [] h = tt
all_proved t list (x ∷ xs) h = (h 0 x (omega arith) refl, all_proved t list xs (λ j y lt there. h (suc j) y (omega arith) there))

pub all_true : (t : DecisionTable) (list : List Statement) (xs : List Answer) → IsLawfulIn t list → AllByRecursion (λ x. IsAskedIn t x.question) xs → AllByRecursion (IsWideOrHasProof t list) xs → AllByRecursion (λ x. IsWideOrTrue t list x.question x.verdict) xs
all_true t list [] lawful asked proved = tt
all_true t list (x ∷ xs) lawful asked proved = (wide_or_true t list x.question x.verdict lawful asked.0 proved.0, all_true t list xs lawful asked.1 proved.1)

-- the answer at a place is refused, and those before it have their proofs
first_refused : (t : DecisionTable) (list : List Statement) (xs : List Answer) (i : ℕ) (x : Answer) (fault : CheckFault) → AreProvedBefore t list xs i → slice_get xs i ≡ Some x → is_wide x.verdict ≡ false → IsFirst (FailsAnswer t list x.question x) IsEarlierFault fault → IsFirst (FailsAnswers t list xs) IsEarlierAnswersFault (answers.Answer (i + 1) fault)
first_refused t list xs i x fault before here concludes first = record {
  fails = record { answer = x; before = i; counted = refl; there = here; concludes = concludes; first = first };
  none_before = none;
}
  where
    none : (other : AnswersFault) → IsEarlierAnswersFault other (answers.Answer (i + 1) fault) → FailsAnswers t list xs other → ⊥
    none (answers.Answer j f) (inl less) at = absurd (omega arith)
    none (answers.Answer j f) (inr same) at =
        let less = same.1 in
        let counted = at.counted in
        let proved = proved_unless_wide t list at.answer.question at.answer.verdict at.concludes (before at.before at.answer (omega arith) at.there) in
        passes_each_test t list at.answer.question at.answer f (record { question = refl; proof = proved }) at.first.fails
    none answers.Memory earlier h = h

pub answers_refused : (t : DecisionTable) (list : List Statement) (xs : List Answer) (i : ℕ) (x : Answer) (fault : CheckFault) → AreProvedBefore t list xs i → i < length xs → x ≡ get_or xs i x → is_wide x.verdict ≡ false → IsRefusedBy (FailsVerdict t list x.question x.verdict) IsEarlierFault faults.Memory fault
    → IsRefusedBy (FailsAnswers t list xs) IsEarlierAnswersFault answers.Memory (refused_at (i + 1) fault)
answers_refused t list xs i x faults.Memory before within is concludes refused ne = absurd (ne refl)
answers_refused t list xs i x fault before within is concludes refused ne =
    first_refused t list xs i x fault before (slice_get-at xs i x within is) concludes (answer_refused t list x.question x fault refl refused (λ e. cc))

pub none_proved : {A : Type 0} (t : DecisionTable) (list : List Statement) (xs : List Answer) (result : Result A AnswersFault) → IfErr result (IsRefusedBy (FailsAnswers t list xs) IsEarlierAnswersFault answers.Memory) → IfErr result (λ e. e ≢ answers.Memory → AllByRecursion (IsWideOrHasProof t list) xs → ⊥)
none_proved t list xs result h = refused_not_passed (FailsAnswers t list xs) IsEarlierAnswersFault answers.Memory result passes h
  where
    passes : (fault : AnswersFault) → AllByRecursion (IsWideOrHasProof t list) xs → FailsAnswers t list xs fault → ⊥
    passes (answers.Answer k fault) proved at =
        let here = proved_unless_wide t list at.answer.question at.answer.verdict at.concludes (all_at (IsWideOrHasProof t list) xs at.before at.answer proved at.there) in
        passes_each_test t list at.answer.question at.answer fault (record { question = refl; proof = here }) at.first.fails
    passes answers.Memory proved h = h
