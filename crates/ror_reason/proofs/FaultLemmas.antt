-- That a refusal of a reduct names the first test that fails, and that what is refused is not proved.
use Rattle.std.proofs.Common.{◌≡◌, ◌≢◌, inl, inr, ℕ, ◌+◌, ◌*◌, ◌<◌, ◌≤◌, List, length, Some, Result, Ok, Err, refl, sym, ap, subst, ◌∙◌, arith}
use Rattle.std.specs.Prelude.{IfErr, OnOk, slice_get, ◌⊎◌}
use Rattle.std.proofs.lemmas.Bool.{cases_lt}
use Rattle.std.proofs.lemmas.Option.{slice_get_within}
use Rattle.ror_text.specs.FirstFault.{IsFirst, IsRefusedBy}
use Rattle.ror_text.proofs.FirstFaultLemmas.{not_earlier, refused_not_passed}
use Rattle.ror_statement.specs.declared.statement.Numbered.{Numbered}
use Rattle.ror_statement.specs.declared.question.Question.{Question}
use Rattle.ror_statement.specs.declared.question.Conclusion.{Conclusion}
use Rattle.ror_statement.specs.Statements.{statements_in}
use Rattle.ror_table.specs.Table.{DecisionTable}
use Rattle.ror_value.specs.Over.{IsLawfulIn, IsAskedIn}
use Rattle.ror_value.specs.Meaning.{Answers}
use Rattle.ror_proof.specs.declared.answer.Answer.{Answer}
use Rattle.ror_check.specs.declared.fault.CheckFault.{CheckFault}
use Rattle.ror_check.specs.Faults.{FailsAnswer, IsEarlierFault}
use Rattle.ror_check.specs.Proof.{IsProvedAnswer}
use Rattle.ror_check.specs.Repair.{AreNumbersIn}
use Rattle.ror_check.proofs.Checking.{some_same}
use Rattle.ror_check.proofs.FirstFaults.{passes_each_test}
use Rattle.ror_reason.specs.declared.fault.ReductFault.{ReductFault}
use Rattle.ror_reason.specs.declared.fault.ReductFault.TheVariants as faults
use Rattle.ror_reason.specs.declared.reducts.Reduct.{Reduct}
use Rattle.ror_reason.specs.Reducts.{stated, without, RestsOnPart, Concludes, IsReduct, IsProvedOther, IsProvedReduct}
use Rattle.ror_reason.specs.ReductFaults.{IsSameAt, FailsOther, FailsReduct, reduct_stage, reduct_place, IsEarlierReductFault}
use Rattle.ror_reason.specs.CheckSteps.{RefusesPart, RefusesOther, RefusesOthers, AreProvedBefore}
use Rattle.ror_reason.proofs.LawLemmas.{at_place, proved_is_reduct}

-- ---- the answers beside the numbers, from the first on

module _ (t : DecisionTable) (list : List Numbered) (q : Question) (c : Conclusion) (ns : List ℕ) (xs : List Answer) where
  pub proved_begins : AreProvedBefore t list q c ns xs 0
  proved_begins k n other lt number there = absurd (omega arith)

  pub proved_more : (i n : ℕ) (other : Answer) → AreProvedBefore t list q c ns xs i → slice_get ns i ≡ Some n → slice_get xs i ≡ Some other → IsProvedOther t list q c ns n other → AreProvedBefore t list q c ns xs (i + 1)
  proved_more i n other before number there proved k m y lt number' there' = elim (cases_lt k i) [
    | inl less ↦ before k m y less number' there'
    | inr le ↦
        let at : i ≡ k = omega arith in
        let same_number : n ≡ m = some_same (sym number ∙ subst (λ j. slice_get ns j ≡ Some m) (sym at) number') in
        let same : other ≡ y = some_same (sym there ∙ subst (λ j. slice_get xs j ≡ Some y) (sym at) there') in
        subst (λ z. IsProvedOther t list q c ns m z) same (subst (λ k. IsProvedOther t list q c ns k other) same_number proved)
  ]

  not_same_before : (i k : ℕ) → length xs ≡ length ns → AreProvedBefore t list q c ns xs i → IsSameAt c xs k → k ≤ i → ⊥
  not_same_before i k as_many proved h le =
      let within = slice_get_within xs h.before h.other h.there in
      let counted = h.counted in
      let number = at_place ns h.before (omega (arith, within, as_many)) in
      (proved h.before number.0 h.other (omega (arith, counted, le)) number.1 h.there).differs h.same

  not_failing_before : (i k : ℕ) (f : CheckFault) → AreProvedBefore t list q c ns xs i → FailsOther t list q ns xs k f → k ≤ i → ⊥
  not_failing_before i k f proved h le =
      let counted = h.counted in
      passes_each_test t (stated (without h.number ns) list) q h.other f (proved h.before h.number h.other (omega (arith, counted, le)) h.number_there h.there).proved h.first.fails

  pub others_refuse : (i at n : ℕ) (other : Answer) (e : ReductFault) → at ≡ i + 1 → AreProvedBefore t list q c ns xs i → slice_get ns i ≡ Some n → slice_get xs i ≡ Some other → RefusesOther t list q c ns at n other e → RefusesOthers t list q c ns xs e
  others_refuse i at n other (faults.SameAnswer k) counted before number there h =
      (record { other = other; before = i; counted = h.0 ∙ counted; there = there; same = h.1 }, λ b is. subst (AreProvedBefore t list q c ns xs) (let e = h.0 in omega (arith, e, counted, is)) before)
  others_refuse i at n other (faults.Other k f) counted before number there h = (
    record { number = n; other = other; before = i; counted = h.0 ∙ counted; number_there = number; there = there; first = h.2 },
    λ same.
        let e = h.0 in
        let e' = same.counted in
        let place : same.before ≡ i = omega (arith, e, counted, e') in
        let is : same.other ≡ other = some_same (sym (subst (λ j. slice_get xs j ≡ Some same.other) place same.there) ∙ there) in
        h.1 (subst (λ (y : Answer). Concludes c y.verdict) is same.same),
    λ b is. subst (AreProvedBefore t list q c ns xs) (let e = h.0 in omega (arith, e, counted, is)) before,
  )
  others_refuse i at n other faults.Memory counted before number there h = tt
  others_refuse i at n other faults.NotCarried counted before number there h = absurd h
  others_refuse i at n other faults.WrongNumbers counted before number there h = absurd h
  others_refuse i at n other faults.Count counted before number there h = absurd h
  others_refuse i at n other faults.AnotherAnswer counted before number there h = absurd h
  others_refuse i at n other (faults.Answer f) counted before number there h = absurd h

-- ---- each fault is the first

module _ (t : DecisionTable) (list : List Numbered) (q : Question) (c : Conclusion) (x : Reduct) where
  abbrev Refused : ReductFault → Type 0
  Refused e = IsRefusedBy (FailsReduct t list q c x) IsEarlierReductFault faults.Memory e

  pub carried_refused : (RestsOnPart q c → ⊥) → Refused faults.NotCarried
  carried_refused fails ne = record { fails = fails; none_before = before }
    where
      before : (g : ReductFault) → IsEarlierReductFault g faults.NotCarried → FailsReduct t list q c x g → ⊥
      before g earlier h = not_earlier reduct_stage reduct_place g faults.NotCarried (omega arith) (omega arith) earlier

  pub numbers_refused : RestsOnPart q c → (AreNumbersIn list x.numbers → ⊥) → Refused faults.WrongNumbers
  numbers_refused rests fails ne = record { fails = fails; none_before = before }
    where
      before : (g : ReductFault) → IsEarlierReductFault g faults.WrongNumbers → FailsReduct t list q c x g → ⊥
      before faults.NotCarried earlier h = h rests
      before faults.WrongNumbers earlier h = not_earlier reduct_stage reduct_place faults.WrongNumbers faults.WrongNumbers (omega arith) (omega arith) earlier
      before faults.Count earlier h = not_earlier reduct_stage reduct_place faults.Count faults.WrongNumbers (omega arith) (omega arith) earlier
      before faults.AnotherAnswer earlier h = not_earlier reduct_stage reduct_place faults.AnotherAnswer faults.WrongNumbers (omega arith) (omega arith) earlier
      before (faults.Answer f) earlier h = not_earlier reduct_stage reduct_place (faults.Answer f) faults.WrongNumbers (omega arith) (omega arith) earlier
      before (faults.SameAnswer k) earlier h = not_earlier reduct_stage reduct_place (faults.SameAnswer k) faults.WrongNumbers (omega arith) (omega arith) earlier
      before (faults.Other k f) earlier h = not_earlier reduct_stage reduct_place (faults.Other k f) faults.WrongNumbers (omega arith) (omega arith) earlier
      before faults.Memory earlier h = h

  module _ (rests : RestsOnPart q c) (numbers : AreNumbersIn list x.numbers) where
    pub count_refused : length x.others ≢ length x.numbers → Refused faults.Count
    count_refused fails ne = record { fails = fails; none_before = before }
      where
        before : (g : ReductFault) → IsEarlierReductFault g faults.Count → FailsReduct t list q c x g → ⊥
        before faults.NotCarried earlier h = h rests
        before faults.WrongNumbers earlier h = h numbers
        before faults.Count earlier h = not_earlier reduct_stage reduct_place faults.Count faults.Count (omega arith) (omega arith) earlier
        before faults.AnotherAnswer earlier h = not_earlier reduct_stage reduct_place faults.AnotherAnswer faults.Count (omega arith) (omega arith) earlier
        before (faults.Answer f) earlier h = not_earlier reduct_stage reduct_place (faults.Answer f) faults.Count (omega arith) (omega arith) earlier
        before (faults.SameAnswer k) earlier h = not_earlier reduct_stage reduct_place (faults.SameAnswer k) faults.Count (omega arith) (omega arith) earlier
        before (faults.Other k f) earlier h = not_earlier reduct_stage reduct_place (faults.Other k f) faults.Count (omega arith) (omega arith) earlier
        before faults.Memory earlier h = h

    module _ (as_many : length x.others ≡ length x.numbers) where
      pub another_refused : (Concludes c x.answer.verdict → ⊥) → Refused faults.AnotherAnswer
      another_refused fails ne = record { fails = fails; none_before = before }
        where
          before : (g : ReductFault) → IsEarlierReductFault g faults.AnotherAnswer → FailsReduct t list q c x g → ⊥
          before faults.NotCarried earlier h = h rests
          before faults.WrongNumbers earlier h = h numbers
          before faults.Count earlier h = h as_many
          before faults.AnotherAnswer earlier h = not_earlier reduct_stage reduct_place faults.AnotherAnswer faults.AnotherAnswer (omega arith) (omega arith) earlier
          before (faults.Answer f) earlier h = not_earlier reduct_stage reduct_place (faults.Answer f) faults.AnotherAnswer (omega arith) (omega arith) earlier
          before (faults.SameAnswer k) earlier h = not_earlier reduct_stage reduct_place (faults.SameAnswer k) faults.AnotherAnswer (omega arith) (omega arith) earlier
          before (faults.Other k f) earlier h = not_earlier reduct_stage reduct_place (faults.Other k f) faults.AnotherAnswer (omega arith) (omega arith) earlier
          before faults.Memory earlier h = h

      module _ (same : Concludes c x.answer.verdict) where
        answer_first : (f : CheckFault) → IsFirst (FailsAnswer t (stated x.numbers list) q x.answer) IsEarlierFault f → IsFirst (FailsReduct t list q c x) IsEarlierReductFault (faults.Answer f)
        answer_first f fails = record { fails = fails; none_before = before }
          where
            before : (g : ReductFault) → IsEarlierReductFault g (faults.Answer f) → FailsReduct t list q c x g → ⊥
            before faults.NotCarried earlier h = h rests
            before faults.WrongNumbers earlier h = h numbers
            before faults.Count earlier h = h as_many
            before faults.AnotherAnswer earlier h = h same
            before (faults.Answer g) earlier h = not_earlier reduct_stage reduct_place (faults.Answer g) (faults.Answer f) (omega arith) (omega arith) earlier
            before (faults.SameAnswer k) earlier h = not_earlier reduct_stage reduct_place (faults.SameAnswer k) (faults.Answer f) (omega arith) (omega arith) earlier
            before (faults.Other k g) earlier h = not_earlier reduct_stage reduct_place (faults.Other k g) (faults.Answer f) (omega arith) (omega arith) earlier
            before faults.Memory earlier h = h

        pub part_refused : (e : ReductFault) → RefusesPart t list q x.numbers x.answer e → Refused e
        part_refused (faults.Answer f) h ne = answer_first f h
        part_refused faults.Memory h ne = absurd (ne refl)
        part_refused faults.NotCarried h ne = absurd h
        part_refused faults.WrongNumbers h ne = absurd h
        part_refused faults.Count h ne = absurd h
        part_refused faults.AnotherAnswer h ne = absurd h
        part_refused (faults.SameAnswer k) h ne = absurd h
        part_refused (faults.Other k f) h ne = absurd h

        module _ (proved : IsProvedAnswer t (stated x.numbers list) q x.answer) where
          same_first : (k : ℕ) → IsSameAt c x.others k → ((b : ℕ) → k ≡ b + 1 → AreProvedBefore t list q c x.numbers x.others b) → IsFirst (FailsReduct t list q c x) IsEarlierReductFault (faults.SameAnswer k)
          same_first k fails so_far = record { fails = fails; none_before = before }
            where
              before : (g : ReductFault) → IsEarlierReductFault g (faults.SameAnswer k) → FailsReduct t list q c x g → ⊥
              before faults.NotCarried earlier h = h rests
              before faults.WrongNumbers earlier h = h numbers
              before faults.Count earlier h = h as_many
              before faults.AnotherAnswer earlier h = h same
              before (faults.Answer f) earlier h = passes_each_test t (stated x.numbers list) q x.answer f proved h.fails
              before (faults.SameAnswer j) (inl less) h = absurd (omega arith)
              before (faults.SameAnswer j) (inr later) h = let lt = later.1 in let counted = fails.counted in not_same_before t list q c x.numbers x.others fails.before j as_many (so_far fails.before counted) h (omega (arith, lt, counted))
              before (faults.Other j f) (inl less) h = absurd (omega arith)
              before (faults.Other j f) (inr later) h = let lt = later.1 in let counted = fails.counted in not_failing_before t list q c x.numbers x.others fails.before j f (so_far fails.before counted) h (omega (arith, lt, counted))
              before faults.Memory earlier h = h

          other_first : (k : ℕ) (f : CheckFault) → FailsOther t list q x.numbers x.others k f → (IsSameAt c x.others k → ⊥) → ((b : ℕ) → k ≡ b + 1 → AreProvedBefore t list q c x.numbers x.others b) → IsFirst (FailsReduct t list q c x) IsEarlierReductFault (faults.Other k f)
          other_first k f fails differs so_far = record { fails = fails; none_before = before }
            where
              same_at : (j : ℕ) → IsSameAt c x.others j → j < k ⊎ k ≤ j → 2 * j < 2 * k + 1 → ⊥
              same_at j h (inl less) lt = let counted = fails.counted in not_same_before t list q c x.numbers x.others fails.before j as_many (so_far fails.before counted) h (omega (arith, less, counted))
              same_at j h (inr le) lt = let at : j ≡ k = omega (arith, le, lt) in differs (subst (IsSameAt c x.others) at h)

              before : (g : ReductFault) → IsEarlierReductFault g (faults.Other k f) → FailsReduct t list q c x g → ⊥
              before faults.NotCarried earlier h = h rests
              before faults.WrongNumbers earlier h = h numbers
              before faults.Count earlier h = h as_many
              before faults.AnotherAnswer earlier h = h same
              before (faults.Answer g) earlier h = passes_each_test t (stated x.numbers list) q x.answer g proved h.fails
              before (faults.SameAnswer j) (inl less) h = absurd (omega arith)
              before (faults.SameAnswer j) (inr later) h = same_at j h (cases_lt j k) later.1
              before (faults.Other j g) (inl less) h = absurd (omega arith)
              before (faults.Other j g) (inr later) h = let lt = later.1 in let counted = fails.counted in not_failing_before t list q c x.numbers x.others fails.before j g (so_far fails.before counted) h (omega (arith, lt, counted))
              before faults.Memory earlier h = h

          others_refused : (e : ReductFault) → RefusesOthers t list q c x.numbers x.others e → Refused e
          others_refused (faults.SameAnswer k) h ne = same_first k h.0 h.1
          others_refused (faults.Other k f) h ne = other_first k f h.0 h.1 h.2
          others_refused faults.Memory h ne = absurd (ne refl)
          others_refused faults.NotCarried h ne = absurd h
          others_refused faults.WrongNumbers h ne = absurd h
          others_refused faults.Count h ne = absurd h
          others_refused faults.AnotherAnswer h ne = absurd h
          others_refused (faults.Answer f) h ne = absurd h

          all_proved : AreProvedBefore t list q c x.numbers x.others (length x.numbers) → IsProvedReduct t list q c x
          all_proved each = record {
            rests = rests;
            numbers = numbers;
            as_many = as_many;
            concludes = same;
            answer = proved;
            others = λ k n other number there. each k n other (slice_get_within x.numbers k n number) number there;
          }

  -- ---- what is proved passes each test

  pub reduct_passes : (fault : ReductFault) → IsProvedReduct t list q c x → FailsReduct t list q c x fault → ⊥
  reduct_passes faults.NotCarried p h = h p.rests
  reduct_passes faults.WrongNumbers p h = h p.numbers
  reduct_passes faults.Count p h = h p.as_many
  reduct_passes faults.AnotherAnswer p h = h p.concludes
  reduct_passes (faults.Answer f) p h = passes_each_test t (stated x.numbers list) q x.answer f p.answer h.fails
  reduct_passes (faults.SameAnswer k) p h = not_same_before t list q c x.numbers x.others k k p.as_many (λ j n other lt number there. p.others j n other number there) h (omega arith)
  reduct_passes (faults.Other k f) p h = not_failing_before t list q c x.numbers x.others k k f (λ j n other lt number there. p.others j n other number there) h (omega arith)
  reduct_passes faults.Memory p h = h

  pub reduct_not_proved : {A : Type 0} (r : Result A ReductFault) → IfErr r Refused → IfErr r (λ g. g ≢ faults.Memory → IsProvedReduct t list q c x → ⊥)
  reduct_not_proved r h = refused_not_passed (FailsReduct t list q c x) IsEarlierReductFault faults.Memory r reduct_passes h

  -- ---- the answer of a check, once the part is accepted

  pub record IsAnsweredBy (r : Result (Unit {0}) ReductFault) : Type 0 where
    pub accepted : OnOk r (IsProvedReduct t list q c x)
    pub true_reduct : OnOk r (Answers t (statements_in list) q c → IsReduct t list q c x.numbers)
    pub refused : IfErr r Refused
    pub not_proved : IfErr r (λ g. g ≢ faults.Memory → IsProvedReduct t list q c x → ⊥)

  pub others_answer : (r : Result (Unit {0}) ReductFault) (ns : List ℕ) (xs : List Answer) → ns ≡ x.numbers → xs ≡ x.others → IsLawfulIn t (statements_in list) → IsAskedIn t q → RestsOnPart q c → AreNumbersIn list ns → length xs ≡ length ns → Concludes c x.answer.verdict → IsProvedAnswer t (stated ns list) q x.answer
      → OnOk r (AreProvedBefore t list q c ns xs (length ns)) → IfErr r (RefusesOthers t list q c ns xs) → IsAnsweredBy r
  others_answer (Ok u) ns xs own beside lawful asked rests numbers as_many same proved ok err =
      let p = all_proved rests (subst (AreNumbersIn list) own numbers) (sym (ap length beside) ∙ as_many ∙ ap length own) same (subst (λ ms. IsProvedAnswer t (stated ms list) q x.answer) own proved)
      (subst (λ ys. AreProvedBefore t list q c x.numbers ys (length x.numbers)) beside (subst (λ ms. AreProvedBefore t list q c ms xs (length ms)) own ok)) in
      record { accepted = p; true_reduct = λ whole. proved_is_reduct t list q c x lawful asked whole p; refused = tt; not_proved = tt }
  others_answer (Err e) ns xs own beside lawful asked rests numbers as_many same proved ok err =
      let refused : Refused e = others_refused rests (subst (AreNumbersIn list) own numbers) (sym (ap length beside) ∙ as_many ∙ ap length own) same (subst (λ ms. IsProvedAnswer t (stated ms list) q x.answer) own proved) e
      (subst (λ ys. RefusesOthers t list q c x.numbers ys e) beside (subst (λ ms. RefusesOthers t list q c ms xs e) own err)) in
      record { accepted = tt; true_reduct = tt; refused = refused; not_proved = λ ne p. reduct_passes e p (refused ne).fails }
