-- That the answers and the words of a pair are refused for the first that is not accepted.
use Rattle.std.proofs.Common.{◌≡◌, ◌≢◌, ℕ, zero, suc, ◌+◌, ◌*◌, ◌/◌, ◌%◌, ◌<◌, false, eqb, cond, List, [], ◌∷◌, length, get_or, Some, Result, Ok, Err, refl, sym, ap, ◌∙◌, subst, arith, inl, inr}
use Rattle.std.specs.Prelude.{slice_get, slice_set, IfErr}
use Rattle.std.specs.List.{AllByRecursion}
use Rattle.std.proofs.lemmas.Bool.{cases_lt}
use Rattle.std.proofs.lemmas.List.{length-map}
use Rattle.ror_text.specs.FirstFault.{IsFirst, IsRefusedBy}
use Rattle.ror_text.proofs.FirstFaultLemmas.{refused_not_passed}
use Rattle.ror_statement.specs.declared.statement.Statement.{Statement}
use Rattle.ror_statement.specs.declared.question.Question.TheVariants.{Necessary, Possible}
use Rattle.ror_table.specs.Table.{DecisionTable}
use Rattle.ror_value.specs.Over.{IsLawfulIn, IsAskedIn}
use Rattle.ror_proof.specs.declared.answer.Answer.{Answer}
use Rattle.ror_check.specs.declared.fault.CheckFault.{CheckFault}
use Rattle.ror_check.specs.declared.fault.CheckFault.TheVariants as checks
use Rattle.ror_check.specs.Proof.{is_wide, IsProvedAnswer, IsWideOrTrue}
use Rattle.ror_check.specs.Faults.{FailsAnswer, IsEarlierFault}
use Rattle.ror_check.proofs.Checking.{some_same}
use Rattle.ror_check.proofs.FirstFaults.{passes_each_test}
use Rattle.ror_check.proofs.ManyAnswers.{wide_or_proved, proved_unless_wide, wide_or_true}
use Rattle.ror_group.specs.declared.fault.GroupFault.{GroupFault}
use Rattle.ror_group.specs.declared.fault.GroupFault.TheVariants as faults
use Rattle.ror_group.specs.declared.judge.Judge.{Judge}
use Rattle.ror_group.specs.declared.quartet.Quartet.{Quartet}
use Rattle.ror_group.specs.Combining.{Asked, asked_on, InStep, combined}
use Rattle.ror_group.specs.Proof.{IsWideOrProvedFor, IsProvedPair, IsJudgeIn, lists_of}
use Rattle.ror_group.specs.Group.{AreGroupAnswers}
use Rattle.ror_group.specs.Faults.{FailsUnlessWide, FailsPair, IsEarlierPairFault, AreProvedBefore, RefusesAnswers, refused_at}
use Rattle.ror_group.proofs.Groups.{combined_are_true}

-- ---- one answer

pub proved_for : (t : DecisionTable) (asked : Asked) (x : Answer) → IsProvedAnswer t asked.list asked.question x → IsWideOrProvedFor t asked x
proved_for t asked x p = record { question = p.question; proof = wide_or_proved t asked.list asked.question x.verdict p.proof }

fails_too : (t : DecisionTable) (asked : Asked) (x : Answer) (g : CheckFault) → is_wide x.verdict ≡ false → FailsAnswer t asked.list asked.question x g → FailsUnlessWide t asked x g
fails_too t asked x checks.WrongQuestion narrow h = h
fails_too t asked x checks.WrongVerdict narrow h = (narrow, h)
fails_too t asked x checks.PartCount narrow h = (narrow, h)
fails_too t asked x (checks.Base r) narrow h = (narrow, h)
fails_too t asked x (checks.Part k r) narrow h = (narrow, h)
fails_too t asked x checks.Memory narrow h = (narrow, h)

fails_answer : (t : DecisionTable) (asked : Asked) (x : Answer) (g : CheckFault) → FailsUnlessWide t asked x g → FailsAnswer t asked.list asked.question x g
fails_answer t asked x checks.WrongQuestion h = h
fails_answer t asked x checks.WrongVerdict h = h.1
fails_answer t asked x checks.PartCount h = h.1
fails_answer t asked x (checks.Base r) h = h.1
fails_answer t asked x (checks.Part k r) h = h.1
fails_answer t asked x checks.Memory h = h.1

pub refused_for : {A : Type 0} (t : DecisionTable) (asked : Asked) (x : Answer) (r : Result A CheckFault) → is_wide x.verdict ≡ false → IfErr r (IsRefusedBy (FailsAnswer t asked.list asked.question x) IsEarlierFault checks.Memory) → IfErr r (IsRefusedBy (FailsUnlessWide t asked x) IsEarlierFault checks.Memory)
refused_for t asked x (Ok u) narrow h = tt
refused_for t asked x (Err g) narrow h = λ ne.
    let first = h ne in
    record {
      fails = fails_too t asked x g narrow first.fails;
      none_before = λ e earlier fails. first.none_before e earlier (fails_answer t asked x e fails);
    }

passes : (t : DecisionTable) (asked : Asked) (x : Answer) (g : CheckFault) → IsWideOrProvedFor t asked x → FailsUnlessWide t asked x g → ⊥
passes t asked x checks.WrongQuestion p h = h p.question
passes t asked x checks.WrongVerdict p h = passes_each_test t asked.list asked.question x checks.WrongVerdict (record { question = p.question; proof = proved_unless_wide t asked.list asked.question x.verdict h.0 p.proof }) h.1
passes t asked x checks.PartCount p h = passes_each_test t asked.list asked.question x checks.PartCount (record { question = p.question; proof = proved_unless_wide t asked.list asked.question x.verdict h.0 p.proof }) h.1
passes t asked x (checks.Base r) p h = passes_each_test t asked.list asked.question x (checks.Base r) (record { question = p.question; proof = proved_unless_wide t asked.list asked.question x.verdict h.0 p.proof }) h.1
passes t asked x (checks.Part k r) p h = passes_each_test t asked.list asked.question x (checks.Part k r) (record { question = p.question; proof = proved_unless_wide t asked.list asked.question x.verdict h.0 p.proof }) h.1
passes t asked x checks.Memory p h = passes_each_test t asked.list asked.question x checks.Memory (record { question = p.question; proof = proved_unless_wide t asked.list asked.question x.verdict h.0 p.proof }) h.1

-- ---- what is asked at a place

abbrev pub asked_at : ℕ → ℕ → ℕ → List Statement → Asked
asked_at a b n list = record { list = list; question = cond (eqb (n % 2) 0) (Necessary a b) (Possible a b) }

pub asked_there : (a b : ℕ) (lists : List (List Statement)) (n : ℕ) (list : List Statement) → slice_get lists (n / 2) ≡ Some list → slice_get (asked_on a b lists) n ≡ Some (asked_at a b n list)
asked_there a b [] n list there = absurd cc
asked_there a b (l ∷ lists) zero list there = let same : l ≡ list = cc in ap (λ (x : List Statement). Some (asked_at a b 0 x)) same
asked_there a b (l ∷ lists) (suc zero) list there = let same : l ≡ list = cc in ap (λ (x : List Statement). Some (asked_at a b 1 x)) same
asked_there a b (l ∷ lists) (suc (suc n)) list there =
    let half : suc (suc n) / 2 ≡ suc (n / 2) = omega arith in
    let parity : suc (suc n) % 2 ≡ n % 2 = omega arith in
    let rest : slice_get lists (n / 2) ≡ Some list = sym (ap (slice_get (l ∷ lists)) half) ∙ there in
    rw parity (asked_there a b lists n list rest)

pub length-asked_on : (a b : ℕ) (lists : List (List Statement)) → length (asked_on a b lists) ≡ 2 * length lists
length-asked_on a b [] = refl
length-asked_on a b (l ∷ lists) = omega (arith, length-asked_on a b lists)

-- ---- the answers, from the first one on

pub proved_more : (t : DecisionTable) (all : List Asked) (xs : List Answer) (i : ℕ) (asked : Asked) (x : Answer) → AreProvedBefore t all xs i → slice_get all i ≡ Some asked → slice_get xs i ≡ Some x → IsWideOrProvedFor t asked x → AreProvedBefore t all xs (i + 1)
proved_more t all xs i asked x before asked_here here proved j other y lt asked_j there =
    elim (cases_lt j i) [
      | inl less ↦ before j other y less asked_j there
      | inr le ↦
          let j-is : j ≡ i = omega arith in
          let asked_i : slice_get all j ≡ Some asked = rw j-is asked_here in
          let at : slice_get xs j ≡ Some x = rw j-is here in
          let of_asked = subst (λ (q : Asked). IsWideOrProvedFor t q x) (some_same (sym asked_i ∙ asked_j)) proved in
          subst (IsWideOrProvedFor t other) (some_same (sym at ∙ there)) of_asked
    ]

pub all_proved : (t : DecisionTable) (all : List Asked) (xs : List Answer) → length all ≡ length xs → AreProvedBefore t all xs (length xs) → InStep (IsWideOrProvedFor t) all xs
all_proved t [] [] same h = tt
all_proved t [] (x ∷ xs) same h = absurd (omega arith)
all_proved t (q ∷ qs) [] same h = absurd (omega arith)
all_proved t (q ∷ qs) (x ∷ xs) same h = (h 0 q x (omega arith) refl refl, all_proved t qs xs (omega arith) (λ j r y lt asked there. h (suc j) r y (omega arith) asked there))

in_step_at : (t : DecisionTable) (all : List Asked) (xs : List Answer) (i : ℕ) (asked : Asked) (x : Answer) → InStep (IsWideOrProvedFor t) all xs → slice_get all i ≡ Some asked → slice_get xs i ≡ Some x → IsWideOrProvedFor t asked x
in_step_at t [] [] i asked x h asked_here here = absurd cc
in_step_at t [] (y ∷ xs) i asked x h asked_here here = absurd h
in_step_at t (q ∷ qs) [] i asked x h asked_here here = absurd h
in_step_at t (q ∷ qs) (y ∷ xs) zero asked x h asked_here here =
    subst (IsWideOrProvedFor t asked) (some_same here) (subst (λ (r : Asked). IsWideOrProvedFor t r y) (some_same asked_here) h.0)
in_step_at t (q ∷ qs) (y ∷ xs) (suc i) asked x h asked_here here = in_step_at t qs xs i asked x h.1 asked_here here

in_step_length : (t : DecisionTable) (all : List Asked) (xs : List Answer) → InStep (IsWideOrProvedFor t) all xs → length xs ≡ length all
in_step_length t [] [] h = refl
in_step_length t [] (y ∷ xs) h = absurd h
in_step_length t (q ∷ qs) [] h = absurd h
in_step_length t (q ∷ qs) (y ∷ xs) h = omega (arith, in_step_length t qs xs h.1)

at_place : (t : DecisionTable) (all : List Asked) (xs : List Answer) (i : ℕ) (asked : Asked) (x : Answer) (g : CheckFault) → AreProvedBefore t all xs i → slice_get all i ≡ Some asked → slice_get xs i ≡ Some x → IsFirst (FailsUnlessWide t asked x) IsEarlierFault g → RefusesAnswers t all xs (faults.Answer (i + 1) g)
at_place t all xs i asked x g before asked_here here first = (
  record { asked = asked; answer = x; before = i; counted = refl; asked_there = asked_here; there = here; first = first },
  λ n is. let same : n ≡ i = omega (arith, is) in rw same before,
)

pub answers_refused : (t : DecisionTable) (all : List Asked) (xs : List Answer) (i : ℕ) (asked : Asked) (x : Answer) (g : CheckFault) → AreProvedBefore t all xs i → slice_get all i ≡ Some asked → slice_get xs i ≡ Some x → IsRefusedBy (FailsUnlessWide t asked x) IsEarlierFault checks.Memory g → RefusesAnswers t all xs (refused_at (i + 1) g)
answers_refused t all xs i asked x checks.Memory before asked_here here refused = tt
answers_refused t all xs i asked x g before asked_here here refused = at_place t all xs i asked x g before asked_here here (refused (λ e. cc))

-- ---- all tests

-- an answer that is refused is the first fault of the pair, where there are two for each judge
pub pair_refused : (t : DecisionTable) (lists : List (List Statement)) (a b : ℕ) (xs : List Answer) (q : Quartet) (fault : GroupFault) → length xs ≡ 2 * length lists → RefusesAnswers t (asked_on a b lists) xs fault → IsRefusedBy (FailsPair t lists a b xs q) IsEarlierPairFault faults.Memory fault
pair_refused t lists a b xs q faults.Count count h = absurd h
pair_refused t lists a b xs q faults.WrongQuartet count h = absurd h
pair_refused t lists a b xs q faults.Memory count h = λ ne. absurd (ne refl)
pair_refused t lists a b xs q (faults.Answer k fault) count h = λ ne. record { fails = h.0; none_before = none }
  where
    none : (other : GroupFault) → IsEarlierPairFault other (faults.Answer k fault) → FailsPair t lists a b xs q other → ⊥
    none faults.Count earlier fails = fails count
    none (faults.Answer j f) (inl less) at = absurd (omega arith)
    none (faults.Answer j f) (inr same) at =
        let less = same.1 in
        let counted = at.counted in
        let last = h.0.counted in
        passes t at.asked at.answer f (h.1 h.0.before last at.before at.asked at.answer (omega arith) at.asked_there at.there) at.first.fails
    none faults.WrongQuartet (inl less) fails = absurd (omega arith)
    none faults.WrongQuartet (inr same) fails = absurd (let no = same.0 in omega arith)
    none faults.Memory earlier fails = fails

pub count_refused : (t : DecisionTable) (lists : List (List Statement)) (a b : ℕ) (xs : List Answer) (q : Quartet) → length xs ≢ 2 * length lists → IsRefusedBy (FailsPair t lists a b xs q) IsEarlierPairFault faults.Memory faults.Count
count_refused t lists a b xs q count ne = record { fails = count; none_before = none }
  where
    none : (other : GroupFault) → IsEarlierPairFault other faults.Count → FailsPair t lists a b xs q other → ⊥
    none other (inl less) fails = absurd (omega arith)
    none other (inr same) fails = let less = same.1 in absurd (omega arith)

pub words_refused : (t : DecisionTable) (lists : List (List Statement)) (a b : ℕ) (xs : List Answer) (q : Quartet) → InStep (IsWideOrProvedFor t) (asked_on a b lists) xs → q ≢ combined xs → IsRefusedBy (FailsPair t lists a b xs q) IsEarlierPairFault faults.Memory faults.WrongQuartet
words_refused t lists a b xs q proved wrong ne = record { fails = wrong; none_before = none }
  where
    none : (other : GroupFault) → IsEarlierPairFault other faults.WrongQuartet → FailsPair t lists a b xs q other → ⊥
    none faults.Count earlier fails = fails (in_step_length t (asked_on a b lists) xs proved ∙ length-asked_on a b lists)
    none (faults.Answer j f) earlier at = passes t at.asked at.answer f (in_step_at t (asked_on a b lists) xs at.before at.asked at.answer proved at.asked_there at.there) at.first.fails
    none faults.WrongQuartet (inl less) fails = absurd (omega arith)
    none faults.WrongQuartet (inr same) fails = let less = same.1 in absurd (omega arith)
    none faults.Memory earlier fails = fails

pub pair_passes : (t : DecisionTable) (lists : List (List Statement)) (a b : ℕ) (xs : List Answer) (q : Quartet) (fault : GroupFault) → IsProvedPair t lists a b xs q → FailsPair t lists a b xs q fault → ⊥
pair_passes t lists a b xs q faults.Count p fails = fails (in_step_length t (asked_on a b lists) xs p.answers ∙ length-asked_on a b lists)
pair_passes t lists a b xs q (faults.Answer j f) p at = passes t at.asked at.answer f (in_step_at t (asked_on a b lists) xs at.before at.asked at.answer p.answers at.asked_there at.there) at.first.fails
pair_passes t lists a b xs q faults.WrongQuartet p fails = fails p.words
pair_passes t lists a b xs q faults.Memory p fails = fails

pub not_proved : {A : Type 0} (t : DecisionTable) (lists : List (List Statement)) (a b : ℕ) (xs : List Answer) (q : Quartet) (r : Result A GroupFault) → IfErr r (IsRefusedBy (FailsPair t lists a b xs q) IsEarlierPairFault faults.Memory) → IfErr r (λ e. e ≢ faults.Memory → IsProvedPair t lists a b xs q → ⊥)
not_proved t lists a b xs q r h = refused_not_passed (FailsPair t lists a b xs q) IsEarlierPairFault faults.Memory r (λ g p. pair_passes t lists a b xs q g p) h

-- ---- what is proved is true

pub true_in_step : (t : DecisionTable) (a b : ℕ) (lists : List (List Statement)) (xs : List Answer) → AllByRecursion (IsLawfulIn t) lists → IsAskedIn t (Necessary a b) → IsAskedIn t (Possible a b) → InStep (IsWideOrProvedFor t) (asked_on a b lists) xs → InStep (λ q x. IsWideOrTrue t q.list q.question x.verdict) (asked_on a b lists) xs
true_in_step t a b [] [] lawful n p h = tt
true_in_step t a b [] (x ∷ xs) lawful n p h = absurd h
true_in_step t a b (list ∷ lists) [] lawful n p h = absurd h
true_in_step t a b (list ∷ lists) (x ∷ []) lawful n p h = absurd h.1
true_in_step t a b (list ∷ lists) (x ∷ y ∷ xs) lawful n p h = (
  wide_or_true t list (Necessary a b) x.verdict lawful.0 n h.0.proof,
  (wide_or_true t list (Possible a b) y.verdict lawful.0 p h.1.0.proof, true_in_step t a b lists xs lawful.1 n p h.1.1),
)

pub proved_are_true : (t : DecisionTable) (lists : List (List Statement)) (a b : ℕ) (xs : List Answer) (q : Quartet) → AllByRecursion (IsLawfulIn t) lists → IsAskedIn t (Necessary a b) → IsAskedIn t (Possible a b) → IsProvedPair t lists a b xs q → AreGroupAnswers t lists a b q
proved_are_true t lists a b xs q lawful n p proved =
    subst (AreGroupAnswers t lists a b) (sym proved.words) (combined_are_true t lists a b xs (true_in_step t a b lists xs lawful n p proved.answers))

-- ---- judges

pub lawful_lists : (t : DecisionTable) (judges : List Judge) → AllByRecursion (IsJudgeIn t) judges → AllByRecursion (IsLawfulIn t) (lists_of judges)
lawful_lists t [] all = tt
lawful_lists t (judge ∷ judges) all = (all.0.lawful, lawful_lists t judges all.1)

-- the same statements stand where the judge at a place was asked
pub same_lists : (judges : List Judge) (i : ℕ) (d new : Judge) → i < length judges → new.statements ≡ (get_or judges i d).statements → lists_of (slice_set judges i new) ≡ lists_of judges
same_lists [] i d new within same = absurd (omega arith)
same_lists (judge ∷ judges) zero d new within same = ap (λ (list : List Statement). list ∷ lists_of judges) same
same_lists (judge ∷ judges) (suc i) d new within same = ap (λ (lists : List (List Statement)). judge.statements ∷ lists) (same_lists judges i d new (omega arith) same)

pub judges_set : (t : DecisionTable) (judges : List Judge) (i : ℕ) (new : Judge) → AllByRecursion (IsJudgeIn t) judges → IsJudgeIn t new → AllByRecursion (IsJudgeIn t) (slice_set judges i new)
judges_set t [] i new all is = tt
judges_set t (judge ∷ judges) zero new all is = (is, all.1)
judges_set t (judge ∷ judges) (suc i) new all is = (all.0, judges_set t judges i new all.1 is)

pub list_there : (judges : List Judge) (i : ℕ) (d : Judge) → i < length judges → slice_get (lists_of judges) i ≡ Some (get_or judges i d).statements
list_there [] i d within = absurd (omega arith)
list_there (judge ∷ judges) zero d within = refl
list_there (judge ∷ judges) (suc i) d within = list_there judges i d (omega arith)

pub same_count : (xs : List Answer) (judges : List Judge) (i : ℕ) (new : Judge) → lists_of (slice_set judges i new) ≡ lists_of judges → length xs ≡ 2 * length judges → length xs ≡ 2 * length (slice_set judges i new)
same_count xs judges i new same count =
    let lengths = ap length same in
    omega (arith, lengths, count, length-map (slice_set judges i new) (λ (j : Judge). j.statements), length-map judges (λ (j : Judge). j.statements))
