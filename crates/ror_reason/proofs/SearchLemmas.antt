-- What the parts of a list that are decided on the way to a reduct say, and what a reason says.
use Rattle.std.proofs.Common.{◌≡◌, ◌⊎◌, inl, inr, ℕ, zero, suc, ◌+◌, ◌<◌, Bool, true, false, List, [], ◌∷◌, ◌++◌, length, length-append, Some, Result, Ok, Err, refl, sym, ap, subst, ◌∙◌}
use Rattle.std.specs.Prelude.{nat_eq, ◌||◌, slice_get, IfOk}
use Rattle.std.specs.List.{list_any}
use Rattle.std.specs.Set.{is_member}
use Rattle.ror_text.proofs.Everywhere.{all-append}
use Rattle.ror_statement.specs.declared.statement.Statement.{Statement}
use Rattle.ror_statement.specs.declared.statement.Numbered.{Numbered}
use Rattle.ror_statement.specs.declared.question.QuestionKind.{QuestionKind}
use Rattle.ror_statement.specs.declared.question.QuestionKind.TheVariants.{Plain, Any, Every}
use Rattle.ror_statement.specs.declared.question.Question.{Question}
use Rattle.ror_statement.specs.declared.question.Question.TheVariants as questions
use Rattle.ror_statement.specs.declared.question.Conclusion.{Conclusion}
use Rattle.ror_statement.specs.declared.question.Conclusion.TheVariants as conclusions
use Rattle.ror_statement.specs.Statements.{numbers_in, statements_in}
use Rattle.ror_statement.specs.Questions.{kind_of}
use Rattle.ror_table.specs.Table.{DecisionTable}
use Rattle.ror_value.specs.Over.{IsLawfulIn}
use Rattle.ror_value.specs.Meaning.{Answers}
use Rattle.ror_pivot.specs.Answers.{most_of}
use Rattle.ror_proof.specs.declared.answer.Answer.{Answer}
use Rattle.ror_proof.specs.declared.answer.Verdict.{Verdict}
use Rattle.ror_proof.specs.declared.answer.Verdict.TheVariants as verdicts
use Rattle.ror_check.specs.Proof.{OfProof, Proves, IsWide, is_wide, may_conclude, IsProvedAnswer, IsAllowedAnswer, IsAllowedVerdict}
use Rattle.ror_check.specs.Repair.{AreNumbersIn}
use Rattle.ror_check.proofs.Checking.{answer_is_true}
use Rattle.ror_given.specs.Notes.{HasNoteAt}
use Rattle.ror_given.specs.Answers.{IsGiven, IsVerdictWithin}
use Rattle.ror_reason.specs.declared.reducts.Reason.{Reason}
use Rattle.ror_reason.specs.declared.reducts.Reason.TheVariants as reasons
use Rattle.ror_reason.specs.declared.sought.Sought.{Sought}
use Rattle.ror_reason.specs.declared.sought.Part.{Part}
use Rattle.ror_reason.specs.Reducts.{stated, without, RestsOnPart, Concludes, IsProvedOther, IsProvedReduct}
use Rattle.ror_reason.specs.Reasons.{IsGivenOther, IsProvedSo, IsReasonOf, IsReasonWithin}
use Rattle.ror_reason.specs.SearchSteps.{IsSought, IsNarrow, IsDecided, IsDecidedPart, HasAnswer, IsPartOf, IsPart, IsOther, AreOthersBefore, IsFound, decided_by}
use Rattle.ror_reason.proofs.Parts.{stated-whole, stated_lawful, numbers-whole, numbers-without, without-shorter}
use Rattle.ror_reason.proofs.LawLemmas.{concluded, proved_is_reduct}

-- ---- one answer

-- a verdict that is allowed and isn't too wide has its proof
allowed_proved : (most : ℕ) (t : DecisionTable) (xs : List Statement) (q : Question) (v : Verdict) → (IsWide v → ⊥) → IsAllowedVerdict (HasNoteAt most) t xs q v → OfProof (Proves t xs q) v
allowed_proved most t xs q (verdicts.Yes proof) concludes h = h
allowed_proved most t xs q (verdicts.No proof) concludes h = h
allowed_proved most t xs q (verdicts.Contradiction proof) concludes h = h
allowed_proved most t xs q (verdicts.Wide system note) concludes h = absurd (concludes tt)

allowed_answer_proved : (most : ℕ) (t : DecisionTable) (xs : List Statement) (q : Question) (x : Answer) → (IsWide x.verdict → ⊥) → IsAllowedAnswer (HasNoteAt most) t xs q x → IsProvedAnswer t xs q x
allowed_answer_proved most t xs q x concludes h = record { question = h.question; proof = allowed_proved most t xs q x.verdict concludes h.verdict }

concludes_not_wide : (c : Conclusion) (v : Verdict) → Concludes c v → IsWide v → ⊥
concludes_not_wide c (verdicts.Yes proof) same wide = wide
concludes_not_wide c (verdicts.No proof) same wide = wide
concludes_not_wide c (verdicts.Contradiction proof) same wide = wide
concludes_not_wide c (verdicts.Wide system note) same wide = same

-- what holds of a conclusion holds of the one of the verdict
pub of_concluded : (P : Conclusion → Type 0) (c : Conclusion) (v : Verdict) → Concludes c v → P c → OfProof (λ d proof. P d) v
of_concluded P c (verdicts.Yes proof) same h = subst P (sym same) h
of_concluded P c (verdicts.No proof) same h = subst P (sym same) h
of_concluded P c (verdicts.Contradiction proof) same h = subst P (sym same) h
of_concluded P c (verdicts.Wide system note) same h = absurd same

pub proved_not_wide : (t : DecisionTable) (xs : List Statement) (q : Question) (x : Answer) → IsProvedAnswer t xs q x → IsWide x.verdict → ⊥
proved_not_wide t xs q x p wide = by x.verdict p.proof wide
  where
    by : (v : Verdict) → OfProof (Proves t xs q) v → IsWide v → ⊥
    by (verdicts.Yes proof) p wide = wide
    by (verdicts.No proof) p wide = wide
    by (verdicts.Contradiction proof) p wide = wide
    by (verdicts.Wide system note) p wide = p

is_wide-wide : (v : Verdict) → is_wide v ≡ false → IsWide v → ⊥
is_wide-wide (verdicts.Yes proof) no_ wide = wide
is_wide-wide (verdicts.No proof) no_ wide = wide
is_wide-wide (verdicts.Contradiction proof) no_ wide = wide
is_wide-wide (verdicts.Wide system note) no_ wide = absurd cc

neither : (a b : Bool) → (a || b) ≡ false → (a ≡ false) × (b ≡ false)
neither true b e = absurd cc
neither false b e = (refl, e)

none_wide : (xs : List Answer) (k : ℕ) (x : Answer) → list_any (λ x. is_wide x.verdict) xs ≡ false → slice_get xs k ≡ Some x → IsWide x.verdict → ⊥
none_wide [] k x none there = absurd cc
none_wide (y ∷ xs) zero x none there =
    let same : y ≡ x = cc in
    is_wide-wide x.verdict (subst (λ (z : Answer). is_wide z.verdict ≡ false) same (neither (is_wide y.verdict) (list_any (λ x. is_wide x.verdict) xs) none).0)
none_wide (y ∷ xs) (suc k) x none there = none_wide xs k x (neither (is_wide y.verdict) (list_any (λ x. is_wide x.verdict) xs) none).1 there

-- ---- the parts on the way

module _ (s : Sought) (sought : IsSought s) where
  pub part_lawful : (ns : List ℕ) (xs : List Statement) → xs ≡ stated ns s.list.now → IsLawfulIn s.table.now xs
  part_lawful ns xs is = subst (IsLawfulIn s.table.now) (sym is) (stated_lawful s.table.now s.list.now ns sought.lawful)

  pub part_decided : {E : Type 0} (ns : List ℕ) (xs : List Statement) (r : Result Answer E) → xs ≡ stated ns s.list.now → IfOk r (IsGiven (most_of s.bits) s.table.now xs s.answer.now.question) → IfOk r (IsDecided s ns)
  part_decided ns xs r is h = subst (λ ys. IfOk r (IsGiven (most_of s.bits) s.table.now ys s.answer.now.question)) is h

  part_of_numbers : (ns : List ℕ) (x : Answer) → AreNumbersIn s.list.now ns → IsDecided s ns x → Concludes s.conclusion x.verdict → IsPartOf s ns x
  part_of_numbers ns x are d concludes = record {
    numbers = are;
    concludes = concludes;
    proved = allowed_answer_proved (most_of s.bits) s.table.now (stated ns s.list.now) s.answer.now.question x (concludes_not_wide s.conclusion x.verdict concludes) d.allowed;
    narrow = λ within. d.narrow;
  }

  pub decided_part : (ns : List ℕ) (part : Part) → AreNumbersIn s.list.now ns → IsDecidedPart s ns part → HasAnswer s.conclusion part.answers.items → IsPart s part
  decided_part ns part are d has = record {
    answer = d.answer;
    is_alone = d.is_alone;
    carries = subst (λ ms. IsPartOf s ms d.answer) (sym d.numbers) (part_of_numbers ns d.answer are d.given (subst (HasAnswer s.conclusion) d.is_alone has));
  }

  whole_of : (ns : List ℕ) (x : Answer) → ns ≡ numbers_in s.list.now → x ≡ s.answer.now → IsPartOf s ns x
  whole_of ns x all same = record {
    numbers = subst (AreNumbersIn s.list.now) (sym all) (numbers-whole s.list.now sought.rising);
    concludes = subst (λ (x : Answer). Concludes s.conclusion x.verdict) (sym same) sought.concludes;
    proved = subst (IsProvedAnswer s.table.now (stated ns s.list.now) s.answer.now.question) (sym same) (subst (λ xs. IsProvedAnswer s.table.now xs s.answer.now.question s.answer.now) (sym (ap (λ ns. stated ns s.list.now) all ∙ stated-whole s.list.now)) sought.proved);
    narrow = subst (λ (x : Answer). IsNarrow s x.verdict) (sym same) (λ within. within);
  }

  pub whole_part : (part : Part) (x : Answer) → part.numbers.items ≡ numbers_in s.list.now → part.answers.items ≡ x ∷ [] → x ≡ s.answer.now → IsPart s part
  whole_part part x all is_alone same = record { answer = x; is_alone = is_alone; carries = whole_of part.numbers.items x all same }

  -- its one answer is the one it carries
  pub part_with : (part : Part) → IsPart s part → (x : Answer) → part.answers.items ≡ x ∷ [] → IsPartOf s part.numbers.items x
  part_with part p x is =
      let alone : p.answer ∷ [] ≡ x ∷ [] = sym p.is_alone ∙ is in
      let same : p.answer ≡ x = cc in
      subst (IsPartOf s part.numbers.items) same p.carries

  -- ---- without one statement

  module _ (part smaller : Part) (n : ℕ) (d : IsDecidedPart s (without n part.numbers.items) smaller) where
    pub smaller_part : IsPart s part → HasAnswer s.conclusion smaller.answers.items → IsPart s smaller
    smaller_part p has = decided_part (without n part.numbers.items) smaller (numbers-without s.list.now n part.numbers.items p.carries.numbers) d has

    pub smaller_length : is_member nat_eq part.numbers.items n ≡ true → length smaller.numbers.items < length part.numbers.items
    smaller_length there = subst (λ ms. length ms < length part.numbers.items) (sym d.numbers) (without-shorter n part.numbers.items there)

    pub other_answer : (HasAnswer s.conclusion smaller.answers.items → ⊥) → IsOther s part.numbers.items n d.answer
    other_answer not = ((d.given.allowed, λ same. not (subst (HasAnswer s.conclusion) (sym d.is_alone) same)), d.given.narrow)

  -- ---- the answers beside the numbers

  pub others_begin : (ns : List ℕ) (xs : List Answer) → xs ≡ [] → AreOthersBefore s ns xs 0
  others_begin ns xs none = subst (λ ys. AreOthersBefore s ns ys 0) (sym none) (record { as_many = refl; each = λ k n other number there. absurd cc; narrow = tt })

  last_there : {X : Type 0} (xs : List X) (x y : X) (k : ℕ) → slice_get (xs ++ x ∷ []) k ≡ Some y → (slice_get xs k ≡ Some y) ⊎ ((k ≡ length xs) × (x ≡ y))
  last_there [] x y zero there = let same : x ≡ y = cc in inr (refl, same)
  last_there [] x y (suc k) there = absurd cc
  last_there (z ∷ xs) x y zero there = inl there
  last_there (z ∷ xs) x y (suc k) there = elim (last_there xs x y k there) [ inl front ↦ inl front | inr last ↦ inr (ap suc last.0, last.1) ]

  pub others_more : (ns : List ℕ) (xs : List Answer) (i n : ℕ) (other : Answer) (ys : List Answer) → AreOthersBefore s ns xs i → slice_get ns i ≡ Some n → IsOther s ns n other → ys ≡ xs ++ other ∷ [] → AreOthersBefore s ns ys (i + 1)
  others_more ns xs i n other ys before number beside pushed = subst (λ zs. AreOthersBefore s ns zs (i + 1)) (sym pushed) (record {
    as_many = length-append xs (other ∷ []) ∙ ap (λ m. m + 1) before.as_many;
    each = each;
    narrow = all-append (λ (other : Answer). IsVerdictWithin (most_of s.bits) other.verdict) xs (other ∷ []) before.narrow (beside.1, tt);
  })
    where
      each : (k m : ℕ) (y : Answer) → slice_get ns k ≡ Some m → slice_get (xs ++ other ∷ []) k ≡ Some y → IsGivenOther (most_of s.bits) s.table.now s.list.now s.answer.now.question s.conclusion ns m y
      each k m y number' there = elim (last_there xs other y k there) [
        | inl front ↦ before.each k m y number' front
        | inr last ↦
            let at : k ≡ i = last.0 ∙ before.as_many in
            let same : Some n ≡ Some m = sym number ∙ subst (λ j. slice_get ns j ≡ Some m) at number' in
            let same_number : n ≡ m = cc in
            subst (λ z. IsGivenOther (most_of s.bits) s.table.now s.list.now s.answer.now.question s.conclusion ns m z) last.1 (subst (λ j. IsGivenOther (most_of s.bits) s.table.now s.list.now s.answer.now.question s.conclusion ns j other) same_number beside.0)
      ]

  -- ---- reasons

  whole_answers : Answers s.table.now (statements_in s.list.now) s.answer.now.question s.conclusion
  whole_answers = concluded s.table.now (statements_in s.list.now) s.answer.now.question s.conclusion s.answer.now.verdict (answer_is_true s.table.now (statements_in s.list.now) s.answer.now.question s.answer.now sought.lawful sought.asked sought.proved) sought.concludes

  part_answers : (ns : List ℕ) (answer : Answer) → IsPartOf s ns answer → Answers s.table.now (stated ns s.list.now) s.answer.now.question s.conclusion
  part_answers ns answer p =
      let xs = stated ns s.list.now in
      concluded s.table.now xs s.answer.now.question s.conclusion answer.verdict (answer_is_true s.table.now xs s.answer.now.question answer (stated_lawful s.table.now s.list.now ns sought.lawful) sought.asked p.proved) p.concludes

  module _ (ns : List ℕ) (answer : Answer) (p : IsPartOf s ns answer) (others : List Answer) (beside : AreOthersBefore s ns others (length ns)) where
    carried : list_any (λ x. is_wide x.verdict) others ≡ false → IsProvedReduct s.table.now s.list.now s.answer.now.question s.conclusion (record { numbers = ns; answer = answer; others = others })
    carried none = record {
      rests = sought.rests;
      numbers = p.numbers;
      as_many = beside.as_many;
      concludes = p.concludes;
      answer = p.proved;
      others = other;
    }
      where
        other : (k n : ℕ) (x : Answer) → slice_get ns k ≡ Some n → slice_get others k ≡ Some x → IsProvedOther s.table.now s.list.now s.answer.now.question s.conclusion ns n x
        other k n x number there =
            let given = beside.each k n x number there in
            record { proved = allowed_answer_proved (most_of s.bits) s.table.now (stated (without n ns) s.list.now) s.answer.now.question x (none_wide others k x none there) given.0; differs = given.1 }

    pub carried_found : (numbers : List ℕ) (xs : List Answer) → numbers ≡ ns → xs ≡ others → list_any (λ x. is_wide x.verdict) others ≡ false → IsFound s (reasons.Carried (record { numbers = numbers; answer = answer; others = xs }))
    carried_found numbers xs own are none =
        let proved = carried none in
        rw (own, are) ((proved, proved_is_reduct s.table.now s.list.now s.answer.now.question s.conclusion (record { numbers = ns; answer = answer; others = others }) sought.lawful sought.asked whole_answers proved), λ within. (p.narrow within, beside.narrow))

    pub wide_found : (numbers : List ℕ) (xs : List Answer) → numbers ≡ ns → xs ≡ others → list_any (λ x. is_wide x.verdict) others ≡ true → IsFound s (reasons.Wide numbers answer xs)
    wide_found numbers xs own are some = rw (own, are) (
      record {
        rests = sought.rests;
        numbers = p.numbers;
        concludes = p.concludes;
        answer = p.proved;
        carries = part_answers ns answer p;
        given = record { as_many = beside.as_many; each = beside.each };
        some_wide = some;
      },
      λ within. (p.narrow within, beside.narrow),
    )

-- ---- answers that no statement carries

no_other : (t : DecisionTable) (xs : List Statement) (q : Question) (c : Conclusion) (v : Verdict) → OfProof (Proves t xs q) v → Concludes c v → may_conclude (kind_of q) c ≡ true
no_other t xs q c (verdicts.Yes proof) p same = subst (λ d. may_conclude (kind_of q) d ≡ true) same p.listed
no_other t xs q c (verdicts.No proof) p same = subst (λ d. may_conclude (kind_of q) d ≡ true) same p.listed
no_other t xs q c (verdicts.Contradiction proof) p same = subst (λ d. may_conclude (kind_of q) d ≡ true) same p.listed
no_other t xs q c (verdicts.Wide system note) p same = absurd same

decided_by_case : (most : ℕ) (t : DecisionTable) (list : List Numbered) (q : Question) (c : Conclusion) (x : Answer) → may_conclude (kind_of q) c ≡ true → (RestsOnPart q c → ⊥) → IsProvedSo t list q c x → IsReasonOf most t list q c (decided_by (kind_of q) c x)
decided_by_case most t list q conclusions.Contradiction x may not h = absurd (not refl)
decided_by_case most t list questions.Consistent conclusions.Yes x may not h = (refl, h)
decided_by_case most t list (questions.Necessary a b) conclusions.Yes x may not h = absurd (not refl)
decided_by_case most t list (questions.Possible a b) conclusions.Yes x may not h = (refl, h)
decided_by_case most t list (questions.NecessaryStrength a b r) conclusions.Yes x may not h = absurd (not refl)
decided_by_case most t list (questions.PossibleStrength a b r) conclusions.Yes x may not h = (refl, h)
decided_by_case most t list (questions.PossibleClass a h') conclusions.Yes x may not h = (refl, h)
decided_by_case most t list (questions.NecessaryClass a h') conclusions.Yes x may not h = (refl, h)
decided_by_case most t list questions.Consistent conclusions.No x may not h = absurd cc
decided_by_case most t list (questions.Necessary a b) conclusions.No x may not h = (refl, h)
decided_by_case most t list (questions.Possible a b) conclusions.No x may not h = absurd (not refl)
decided_by_case most t list (questions.NecessaryStrength a b r) conclusions.No x may not h = (refl, h)
decided_by_case most t list (questions.PossibleStrength a b r) conclusions.No x may not h = absurd (not refl)
decided_by_case most t list (questions.PossibleClass a h') conclusions.No x may not h = absurd (not refl)
decided_by_case most t list (questions.NecessaryClass a h') conclusions.No x may not h = (refl, h)

pub decided_reason : (most : ℕ) (t : DecisionTable) (list : List Numbered) (c : Conclusion) (answer copy : Answer) (r : Reason) → copy ≡ answer → r ≡ decided_by (kind_of copy.question) c copy → IsProvedAnswer t (statements_in list) answer.question answer → Concludes c answer.verdict → (RestsOnPart answer.question c → ⊥) → IsReasonOf most t list answer.question c r
decided_reason most t list c answer copy r same is proved concludes not =
    let found = decided_by_case most t list answer.question c answer (no_other t (statements_in list) answer.question c answer.verdict proved.proof concludes) not (record { proved = proved; concludes = concludes }) in
    subst (IsReasonOf most t list answer.question c) (sym (is ∙ ap (λ (x : Answer). decided_by (kind_of x.question) c x) same)) found

pub decided_narrow : (most : ℕ) (k : QuestionKind) (c : Conclusion) (answer : Answer) → IsVerdictWithin most answer.verdict → IsReasonWithin most (decided_by k c answer)
decided_narrow most k c answer within = by k c
  where
    by : (k : QuestionKind) (c : Conclusion) → IsReasonWithin most (decided_by k c answer)
    by k conclusions.No = within
    by Every conclusions.Yes = within
    by Every conclusions.Contradiction = within
    by Plain conclusions.Yes = within
    by Plain conclusions.Contradiction = within
    by Any conclusions.Yes = within
    by Any conclusions.Contradiction = within

-- ---- the answers of the calls

pub found_so : {E : Type 0} (most : ℕ) (t : DecisionTable) (list : List Numbered) (answer : Answer) (c : Conclusion) (r : Result Reason E) → Concludes c answer.verdict → IfOk r (λ reason. IsReasonOf most t list answer.question c reason × (IsVerdictWithin most answer.verdict → IsReasonWithin most reason))
    → IfOk r (λ reason. OfProof (λ d proof. IsReasonOf most t list answer.question d reason) answer.verdict)
found_so most t list answer c (Ok reason) same h = of_concluded (λ d. IsReasonOf most t list answer.question d reason) c answer.verdict same h.0
found_so most t list answer c (Err e) same h = tt
