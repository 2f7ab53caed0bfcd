-- A certificate is refused for one thing, and none that is proved is.
use Rattle.std.proofs.Common.{◌≡◌, ℕ, suc, List, [], ◌∷◌, ◌++◌, length, Option, Some, None, refl, sym, ap, subst, ◌∙◌, arith}
use Rattle.std.specs.Prelude.{slice_get}
use Rattle.std.specs.List.{AllByRecursion}
use Rattle.ror_text.specs.FirstFault.{IsFirst}
use Rattle.ror_text.proofs.FirstFaultLemmas.{first_at}
use Rattle.ror_text.proofs.Everywhere.{all-back}
use Rattle.ror_statement.specs.declared.statement.Statement.{Statement}
use Rattle.ror_statement.specs.declared.statement.Numbered.{Numbered}
use Rattle.ror_statement.specs.declared.question.Question.{Question}
use Rattle.ror_statement.specs.declared.question.Conclusion.{Conclusion}
use Rattle.ror_table.specs.Table.{DecisionTable}
use Rattle.ror_proof.specs.declared.answer.Answer.{Answer}
use Rattle.ror_proof.specs.declared.answer.Verdict.{Verdict}
use Rattle.ror_proof.specs.declared.answer.Verdict.TheVariants as verdicts
use Rattle.ror_proof.specs.declared.answer.WideText.{WideText}
use Rattle.ror_check.specs.declared.fault.CheckFault.{CheckFault}
use Rattle.ror_check.specs.declared.fault.CheckFault.TheVariants as checks
use Rattle.ror_check.specs.Faults.{FailsAnswer, fault_stage, fault_place, IsEarlierFault}
use Rattle.ror_check.specs.Proof.{is_wide}
use Rattle.ror_bench.proofs.UniqueLemmas.{one_answer_fault, one_some}
use Rattle.ror_reason.specs.declared.fault.ReductFault.{ReductFault}
use Rattle.ror_reason.specs.declared.fault.ReductFault.TheVariants as faults
use Rattle.ror_reason.specs.declared.reducts.Reduct.{Reduct}
use Rattle.ror_reason.specs.Reducts.{stated, without}
use Rattle.ror_reason.specs.ReductFaults.{FailsOther, FailsReduct, reduct_stage, reduct_place, IsEarlierReductFault}
use Rattle.ror_reason.proofs.FaultLemmas.{reduct_passes}
use Rattle.ror_show_forms.specs.declared.certificate.Certificate.{Certificate}
use Rattle.ror_bench.specs.declared.kept.KeptLine.{KeptLine}
use Rattle.ror_bench.specs.declared.report.Reason.{Reason}
use Rattle.ror_bench.specs.declared.report.Rejection.{Rejection}
use Rattle.ror_show_forms.specs.Answered.{answer_at, conclusion_of, reason_of, IsProvedOf, IsProvedCertificate, RefusesOf, Refuses, IsFirstUnproved, concludes_nothing, at_fault, no_answer, wrong_reduct}
use Rattle.ror_show_forms.proofs.Refusals.{with_list}

-- ---- an answer has one first fault

module _ (t : DecisionTable) (list : List Statement) (q : Question) where
  -- one that is too wide is to another question, or else has the wrong verdict
  wide_one : (asked : Question) (system : ℕ) (note : WideText) (f g : CheckFault) → FailsAnswer t list q (record { question = asked; verdict = verdicts.Wide system note }) f → FailsAnswer t list q (record { question = asked; verdict = verdicts.Wide system note }) g → fault_stage f ≡ fault_stage g → f ≡ g
  wide_one asked system note checks.WrongQuestion checks.WrongQuestion first second stage = refl
  wide_one asked system note checks.WrongQuestion checks.WrongVerdict first second stage = absurd (omega (arith, stage))
  wide_one asked system note checks.WrongQuestion checks.PartCount first second stage = absurd second
  wide_one asked system note checks.WrongQuestion (checks.Base r) first second stage = absurd second
  wide_one asked system note checks.WrongQuestion (checks.Part k r) first second stage = absurd second
  wide_one asked system note checks.WrongQuestion checks.Memory first second stage = absurd second
  wide_one asked system note checks.WrongVerdict checks.WrongQuestion first second stage = absurd (omega (arith, stage))
  wide_one asked system note checks.WrongVerdict checks.WrongVerdict first second stage = refl
  wide_one asked system note checks.WrongVerdict checks.PartCount first second stage = absurd second
  wide_one asked system note checks.WrongVerdict (checks.Base r) first second stage = absurd second
  wide_one asked system note checks.WrongVerdict (checks.Part k r) first second stage = absurd second
  wide_one asked system note checks.WrongVerdict checks.Memory first second stage = absurd second
  wide_one asked system note checks.PartCount g first second stage = absurd first
  wide_one asked system note (checks.Base r) g first second stage = absurd first
  wide_one asked system note (checks.Part k r) g first second stage = absurd first
  wide_one asked system note checks.Memory g first second stage = absurd first

  one_at : (x : Answer) (f g : CheckFault) → FailsAnswer t list q x f → FailsAnswer t list q x g → fault_stage f ≡ fault_stage g → fault_place f ≡ fault_place g → f ≡ g
  one_at x f g first second stage place = by x.verdict refl
    where
      by : (v : Verdict) → x.verdict ≡ v → f ≡ g
      by (verdicts.Yes proof) is = one_answer_fault t list q x f g (ap is_wide is) first second stage place
      by (verdicts.No proof) is = one_answer_fault t list q x f g (ap is_wide is) first second stage place
      by (verdicts.Contradiction proof) is = one_answer_fault t list q x f g (ap is_wide is) first second stage place
      by (verdicts.Wide system note) is =
          wide_one x.question system note f g (subst (λ (v : Verdict). FailsAnswer t list q (record { question = x.question; verdict = v }) f) is first) (subst (λ (v : Verdict). FailsAnswer t list q (record { question = x.question; verdict = v }) g) is second) stage

  one_fault : (x : Answer) (f g : CheckFault) → IsFirst (FailsAnswer t list q x) IsEarlierFault f → IsFirst (FailsAnswer t list q x) IsEarlierFault g → f ≡ g
  one_fault x f g first second =
      let at = first_at (FailsAnswer t list q x) fault_stage fault_place f g first second in
      one_at x f g first.fails second.fails at.0 at.1

-- ---- a reduct has one first fault

module _ (t : DecisionTable) (list : List Numbered) (q : Question) (c : Conclusion) (x : Reduct) where
  one_other : (k : ℕ) (f g : CheckFault) → FailsOther t list q x.numbers x.others k f → FailsOther t list q x.numbers x.others k g → f ≡ g
  one_other k f g first second =
      let e = first.counted in
      let m = second.counted in
      let place : second.before ≡ first.before = omega (arith, e, m) in
      let number : second.number ≡ first.number = one_some (slice_get x.numbers first.before) second.number first.number (ap (slice_get x.numbers) (sym place) ∙ second.number_there) first.number_there in
      let answer : second.other ≡ first.other = one_some (slice_get x.others first.before) second.other first.other (ap (slice_get x.others) (sym place) ∙ second.there) first.there in
      let of_number = subst (λ (n : ℕ). IsFirst (FailsAnswer t (stated (without n x.numbers) list) q second.other) IsEarlierFault g) number second.first in
      let here = subst (λ (y : Answer). IsFirst (FailsAnswer t (stated (without first.number x.numbers) list) q y) IsEarlierFault g) answer of_number in
      one_fault t (stated (without first.number x.numbers) list) q first.other f g first.first here

  one_of_stage : (f g : ReductFault) → FailsReduct t list q c x f → FailsReduct t list q c x g → reduct_stage f ≡ reduct_stage g → reduct_place f ≡ reduct_place g → f ≡ g
  one_of_stage faults.Memory g first second stage place = absurd first
  one_of_stage f faults.Memory first second stage place = absurd second
  one_of_stage faults.NotCarried faults.NotCarried first second stage place = refl
  one_of_stage faults.WrongNumbers faults.WrongNumbers first second stage place = refl
  one_of_stage faults.Count faults.Count first second stage place = refl
  one_of_stage faults.AnotherAnswer faults.AnotherAnswer first second stage place = refl
  one_of_stage (faults.Answer f) (faults.Answer g) first second stage place = ap (λ (h : CheckFault). faults.Answer h) (one_fault t (stated x.numbers list) q x.answer f g first second)
  one_of_stage (faults.SameAnswer k) (faults.SameAnswer l) first second stage place = let same : k ≡ l = omega (arith, place) in ap (λ (n : ℕ). faults.SameAnswer n) same
  one_of_stage (faults.SameAnswer k) (faults.Other l g) first second stage place = absurd (omega (arith, place))
  one_of_stage (faults.Other k f) (faults.SameAnswer l) first second stage place = absurd (omega (arith, place))
  one_of_stage (faults.Other k f) (faults.Other l g) first second stage place =
      let same : k ≡ l = omega (arith, place) in
      let here = subst (λ (n : ℕ). FailsOther t list q x.numbers x.others n g) (sym same) second in
      ap (λ (n : ℕ). faults.Other n f) same ∙ ap (λ (h : CheckFault). faults.Other l h) (one_other k f g first here)
  one_of_stage f g first second stage place = absurd (omega arith)

  one_reduct_fault : (f g : ReductFault) → IsFirst (FailsReduct t list q c x) IsEarlierReductFault f → IsFirst (FailsReduct t list q c x) IsEarlierReductFault g → f ≡ g
  one_reduct_fault f g first second =
      let at = first_at (FailsReduct t list q c x) reduct_stage reduct_place f g first second in
      one_of_stage f g first.fails second.fails at.0 at.1

-- ---- a certificate is refused for one thing

not_none : {A : Type 0} (o : Option A) (x : A) → o ≡ None → o ≡ Some x → ⊥
not_none {A} o x none some = absurd (let both = sym none ∙ some in cc)

one_of : (t : DecisionTable) (list : List Numbered) (answer : Answer) (x : Reduct) (p r : Reason) → RefusesOf t list answer x p → RefusesOf t list answer x r → p ≡ r
one_of t list answer x p r (concludes_nothing none is) (concludes_nothing none' is') = is ∙ sym is'
one_of t list answer x p r (concludes_nothing none is) (at_fault c f so first is') = absurd (not_none (conclusion_of answer.verdict) c none so)
one_of t list answer x p r (at_fault c f so first is) (concludes_nothing none is') = absurd (not_none (conclusion_of answer.verdict) c none so)
one_of t list answer x p r (at_fault c f so first is) (at_fault d g so' first' is') =
    let same : d ≡ c = one_some (conclusion_of answer.verdict) d c so' so in
    let here = subst (λ (e : Conclusion). IsFirst (FailsReduct t list answer.question e x) IsEarlierReductFault g) same first' in
    is ∙ ap reason_of (one_reduct_fault t list answer.question c x f g first here) ∙ sym is'

one_reason : (t : DecisionTable) (kept : List KeptLine) (x : Certificate) (p r : Reason) → Refuses t kept x p → Refuses t kept x r → p ≡ r
one_reason t kept x p r (no_answer none is) (no_answer none' is') = is ∙ sym is'
one_reason t kept x p r (no_answer none is) (wrong_reduct list answer there of') = absurd (not_none (answer_at kept x.line x.place) (list, answer) none there)
one_reason t kept x p r (wrong_reduct list answer there of) (no_answer none is) = absurd (not_none (answer_at kept x.line x.place) (list, answer) none there)
one_reason t kept x p r (wrong_reduct list answer there of) (wrong_reduct list' answer' there' of') =
    let same : with_list list' answer' ≡ with_list list answer = one_some (answer_at kept x.line x.place) (list', answer') (list, answer) there' there in
    one_of t list answer x.reduct p r of (subst (λ (y : List Numbered × Answer). RefusesOf t y.0 y.1 x.reduct r) same of')

proved_of : (t : DecisionTable) (list : List Numbered) (answer : Answer) (x : Reduct) (r : Reason) → IsProvedOf t list answer x → RefusesOf t list answer x r → ⊥
proved_of t list answer x r p (concludes_nothing none is) = not_none (conclusion_of answer.verdict) p.conclusion none p.concludes
proved_of t list answer x r p (at_fault c f so first is) =
    let same : c ≡ p.conclusion = one_some (conclusion_of answer.verdict) c p.conclusion so p.concludes in
    reduct_passes t list answer.question p.conclusion x f p.reduct (subst (λ (e : Conclusion). FailsReduct t list answer.question e x f) same first.fails)

proved_not_refused : (t : DecisionTable) (kept : List KeptLine) (x : Certificate) (r : Reason) → IsProvedCertificate t kept x → Refuses t kept x r → ⊥
proved_not_refused t kept x r p (no_answer none is) = not_none (answer_at kept x.line x.place) (p.list, p.answer) none p.there
proved_not_refused t kept x r p (wrong_reduct list answer there of) =
    let same : with_list list answer ≡ with_list p.list p.answer = one_some (answer_at kept x.line x.place) (list, answer) (p.list, p.answer) there p.there in
    proved_of t p.list p.answer x.reduct r p.proved (subst (λ (y : List Numbered × Answer). RefusesOf t y.0 y.1 x.reduct r) same of)

-- ---- of several one is the first

-- the first one of which P doesn't hold
one_first : {X : Type 0} (P : X → Type 0) (fs gs : List X) (x y : X) (xs ys : List X) → fs ++ x ∷ xs ≡ gs ++ y ∷ ys → AllByRecursion P fs → AllByRecursion P gs → (P x → ⊥) → (P y → ⊥) → (length fs ≡ length gs) × (x ≡ y)
one_first {X} P [] [] x y xs ys same fs_hold gs_hold not_x not_y = (refl, cc)
one_first {X} P [] (g ∷ gs) x y xs ys same fs_hold gs_hold not_x not_y = let first : g ≡ x = cc in absurd (not_x (subst P first gs_hold.0))
one_first {X} P (f ∷ fs) [] x y xs ys same fs_hold gs_hold not_x not_y = let first : f ≡ y = cc in absurd (not_y (subst P first fs_hold.0))
one_first {X} P (f ∷ fs) (g ∷ gs) x y xs ys same fs_hold gs_hold not_x not_y =
    let rest : fs ++ x ∷ xs ≡ gs ++ y ∷ ys = cc in
    let later = one_first P fs gs x y xs ys rest fs_hold.1 gs_hold.1 not_x not_y in
    (ap suc later.0, later.1)

same_rejection : (p r : Rejection) → p.block ≡ r.block → p.reason ≡ r.reason → p ≡ r
same_rejection p r block reason = ap (λ (n : ℕ). record { block = n; reason = p.reason }) block ∙ ap (λ (w : Reason). record { block = r.block; reason = w }) reason

pub one_first_unproved : (t : DecisionTable) (kept : List KeptLine) (xs : List Certificate) (p r : Rejection) → IsFirstUnproved t kept xs p → IsFirstUnproved t kept xs r → p ≡ r
one_first_unproved t kept xs p r first second =
    let same = one_first (IsProvedCertificate t kept) first.before second.before first.certificate second.certificate first.behind second.behind (sym first.split ∙ second.split) first.proved second.proved
    (λ proved. proved_not_refused t kept first.certificate p.reason proved first.refused) (λ proved. proved_not_refused t kept second.certificate r.reason proved second.refused) in
    let long = same.0 in
    let one = first.block in
    let other = second.block in
    same_rejection p r (omega (arith, long, one, other)) (one_reason t kept first.certificate p.reason r.reason first.refused (subst (λ (x : Certificate). Refuses t kept x r.reason) (sym same.1) second.refused))

pub proved_not_rejected : (t : DecisionTable) (kept : List KeptLine) (xs : List Certificate) (r : Rejection) → AllByRecursion (IsProvedCertificate t kept) xs → IsFirstUnproved t kept xs r → ⊥
proved_not_rejected t kept xs r all first =
    let split = subst (AllByRecursion (IsProvedCertificate t kept)) first.split all in
    let back = all-back (IsProvedCertificate t kept) first.before (first.certificate ∷ first.behind) split in
    proved_not_refused t kept first.certificate r.reason back.0 first.refused
