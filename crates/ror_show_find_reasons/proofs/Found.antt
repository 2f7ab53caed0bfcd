-- What carries that one alternative is at least as good as another, by the answer that says it.
use Rattle.std.proofs.Common.{◌≡◌, inl, inr, ℕ, zero, suc, Bool, true, false, List, [], ◌∷◌, Option, Some, None, refl, sym, ap, subst, ◌∙◌}
use Rattle.std.specs.Prelude.{slice_get, if◌then◌else◌}
use Rattle.std.specs.List.{AllByRecursion, find}
use Rattle.std.proofs.lemmas.Bool.{cases_Bool, eqb-true}
use Rattle.ror_show_ground.proofs.Tests.{both-true}
use Rattle.ror_statement.specs.declared.statement.Numbered.{Numbered}
use Rattle.ror_statement.specs.declared.statement.Statement.{Statement}
use Rattle.ror_statement.specs.declared.question.Conclusion.TheVariants as conclusions
use Rattle.ror_statement.specs.declared.question.Question.{Question}
use Rattle.ror_statement.specs.declared.question.Question.TheVariants.{Consistent, Necessary, Possible, NecessaryStrength, PossibleStrength, PossibleClass, NecessaryClass}
use Rattle.ror_table.specs.Table.{DecisionTable}
use Rattle.ror_proof.specs.declared.answer.Answer.{Answer}
use Rattle.ror_proof.specs.declared.answer.Verdict.{Verdict}
use Rattle.ror_proof.specs.declared.answer.Verdict.TheVariants as verdicts
use Rattle.ror_check.specs.Proof.{OfProof, Proves, IsProvedAnswer, IsWideOrProved}
use Rattle.ror_show_ground.specs.Sound.{IsSoundAnswer}
use Rattle.ror_pivot.specs.declared.note.Bits.TheVariants.{B127}
use Rattle.ror_pivot.specs.Answers.{most_of}
use Rattle.ror_reason.specs.declared.reducts.Reason.{Reason}
use Rattle.ror_reason.specs.Reasons.{IsReasonOf}
use Rattle.ror_show_find_reasons.specs.Carrying.{IsReasonFor, HasReason}
use Rattle.ror_show_find_reasons.specs.Pairs.{is_yes_over, says_over, CarriesWhere, IsCarriedBy}

-- ---- the first that passes a test

pub chosen : {X : Type 0} (b : Bool) (u v : X) → b ≡ true → (if b then u else v) ≡ u
chosen {X} true u v is = refl
chosen {X} false u v is = absurd cc

pub passed_over : {X : Type 0} (b : Bool) (u v : X) → b ≡ false → (if b then u else v) ≡ v
passed_over {X} true u v is = absurd cc
passed_over {X} false u v is = refl

pub found_passes : {X : Type 0} (test : X → Bool) (xs : List X) (x : X) → find test xs ≡ Some x → test x ≡ true
found_passes {X} test [] x is = absurd cc
found_passes {X} test (y ∷ ys) x is = elim (cases_Bool (test y)) [
  | inl passes ↦
      let same : y ≡ x = let p = sym (chosen (test y) (Some y) (find test ys) passes) ∙ is in cc in
      subst (λ (z : X). test z ≡ true) same passes
  | inr fails ↦ found_passes test ys x (sym (passed_over (test y) (Some y) (find test ys) fails) ∙ is)
]

pub found_has : {X : Type 0} (P : X → Type 0) (test : X → Bool) (xs : List X) (x : X) → AllByRecursion P xs → find test xs ≡ Some x → P x
found_has {X} P test [] x all is = absurd cc
found_has {X} P test (y ∷ ys) x all is = elim (cases_Bool (test y)) [
  | inl passes ↦
      let same : y ≡ x = let p = sym (chosen (test y) (Some y) (find test ys) passes) ∙ is in cc in
      subst P same all.0
  | inr fails ↦ found_has P test ys x all.1 (sym (passed_over (test y) (Some y) (find test ys) fails) ∙ is)
]

pub found_there : {X : Type 0} (test : X → Bool) (xs : List X) (k : ℕ) (x : X) → slice_get xs k ≡ Some x → test x ≡ true → (y : X) × (find test xs ≡ Some y)
found_there {X} test [] k x there passes = absurd cc
found_there {X} test (z ∷ zs) zero x there passes =
    let same : z ≡ x = cc in
    (z, chosen (test z) (Some z) (find test zs) (ap test same ∙ passes))
found_there {X} test (z ∷ zs) (suc k) x there passes = elim (cases_Bool (test z)) [
  | inl first ↦ (z, chosen (test z) (Some z) (find test zs) first)
  | inr later ↦
      let rest = found_there test zs k x there passes in
      (rest.0, passed_over (test z) (Some z) (find test zs) later ∙ rest.1)
]

-- ---- the answer that says it

-- its question, and that it is yes
record IsYes (arrow : ℕ × ℕ) (q : Question) (v : Verdict) : Type 0 where
  pub asks : q ≡ Necessary arrow.0 arrow.1
  pub concludes : OfProof (λ c proof. c ≡ conclusions.Yes) v

both_ends : (arrow : ℕ × ℕ) (a b : ℕ) → a ≡ arrow.0 → b ≡ arrow.1 → Necessary a b ≡ Necessary arrow.0 arrow.1
both_ends arrow a b first second = cc

says_yes : (arrow : ℕ × ℕ) (q : Question) (v : Verdict) → is_yes_over arrow q v ≡ true → IsYes arrow q v
says_yes arrow (Necessary a b) (verdicts.Yes proof) is =
    let ends = both-true _ _ is in
    record { asks = both_ends arrow a b (eqb-true a arrow.0 ends.0) (eqb-true b arrow.1 ends.1); concludes = refl }
says_yes arrow (Necessary a b) (verdicts.No proof) is = absurd cc
says_yes arrow (Necessary a b) (verdicts.Contradiction proof) is = absurd cc
says_yes arrow (Necessary a b) (verdicts.Wide system note) is = absurd cc
says_yes arrow Consistent v is = absurd cc
says_yes arrow (Possible a b) v is = absurd cc
says_yes arrow (NecessaryStrength p q s) v is = absurd cc
says_yes arrow (PossibleStrength p q s) v is = absurd cc
says_yes arrow (PossibleClass a h) v is = absurd cc
says_yes arrow (NecessaryClass a h) v is = absurd cc

-- it has its proof
pub proved_over : (t : DecisionTable) (list : List Statement) (arrow : ℕ × ℕ) (x : Answer) → says_over arrow x ≡ true → IsSoundAnswer t list x → IsProvedAnswer t list x.question x
proved_over t list arrow x is sound = record { question = refl; proof = by x.verdict (says_yes arrow x.question x.verdict is).concludes sound.verdict }
  where
    by : (v : Verdict) → OfProof (λ c proof. c ≡ conclusions.Yes) v → IsWideOrProved t list x.question v → OfProof (Proves t list x.question) v
    by (verdicts.Yes proof) yes_ h = h
    by (verdicts.No proof) yes_ h = h
    by (verdicts.Contradiction proof) yes_ h = h
    by (verdicts.Wide system note) yes_ h = absurd yes_

-- ---- its reason

pub asks_over : (arrow : ℕ × ℕ) (x : Answer) → says_over arrow x ≡ true → x.question ≡ Necessary arrow.0 arrow.1
asks_over arrow x is = (says_yes arrow x.question x.verdict is).asks

for_yes : (t : DecisionTable) (list : List Numbered) (q : Question) (v : Verdict) (reason : Reason) → OfProof (λ c proof. c ≡ conclusions.Yes) v → IsReasonFor t list q v reason → IsReasonOf (most_of B127) t list q conclusions.Yes reason
unfolding IsReasonFor
for_yes t list q (verdicts.Yes proof) reason yes_ h = h
for_yes t list q (verdicts.No proof) reason yes_ h = absurd (let p = yes_ in cc)
for_yes t list q (verdicts.Contradiction proof) reason yes_ h = absurd (let p = yes_ in cc)
for_yes t list q (verdicts.Wide system note) reason yes_ h = absurd yes_

yes_reason : (t : DecisionTable) (list : List Numbered) (arrow : ℕ × ℕ) (q : Question) (v : Verdict) (reason : Reason) → is_yes_over arrow q v ≡ true → IsReasonFor t list q v reason → IsReasonOf (most_of B127) t list (Necessary arrow.0 arrow.1) conclusions.Yes reason
yes_reason t list arrow q v reason is h =
    let said = says_yes arrow q v is in
    subst (λ (p : Question). IsReasonOf (most_of B127) t list p conclusions.Yes reason) said.asks (for_yes t list q v reason said.concludes h)

-- where an answer says it, what is found is its reason
pub found_reason : (t : DecisionTable) (list : List Numbered) (xs : List Answer) (arrow : ℕ × ℕ) (x : Answer) (told : Option Reason) → find (says_over arrow) xs ≡ Some x → IsCarriedBy t list xs arrow told → (reason : Reason) × IsReasonOf (most_of B127) t list (Necessary arrow.0 arrow.1) conclusions.Yes reason × (told ≡ Some reason)
found_reason t list xs arrow x told there are =
    let has : HasReason t list x.question x.verdict told = subst (λ (o : Option Answer). CarriesWhere t list o told) there are in
    (has.0, yes_reason t list arrow x.question x.verdict has.0 (found_passes (says_over arrow) xs x there) has.1, has.3)

pub carried_by : (t : DecisionTable) (list : List Numbered) (xs : List Answer) (arrow : ℕ × ℕ) (x : Answer) (told : Option Reason) → find (says_over arrow) xs ≡ Some x → HasReason t list x.question x.verdict told → IsCarriedBy t list xs arrow told
carried_by t list xs arrow x told there has = subst (λ (o : Option Answer). CarriesWhere t list o told) (sym there) has

pub carried_by_none : (t : DecisionTable) (list : List Numbered) (xs : List Answer) (arrow : ℕ × ℕ) → find (says_over arrow) xs ≡ None → IsCarriedBy t list xs arrow None
carried_by_none t list xs arrow none = subst (λ (o : Option Answer). CarriesWhere t list o None) (sym none) refl
