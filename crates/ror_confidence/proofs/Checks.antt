-- That a span is refused for the first of its faults, and that no test fails of one with its proof.
use Rattle.std.proofs.Common.{◌≡◌, ◌≢◌, inl, inr, ℕ, zero, suc, ◌+◌, ◌-◌, ◌<◌, ◌≤◌, true, List, [], ◌∷◌, ◌++◌, length, Some, Result, Ok, Err, refl, sym, ap, subst, ◌∙◌, arith, get_or}
use Rattle.std.specs.Prelude.{IfErr, OnOk, drop, take, map, nat_lt, slice_get, slice_index_or, slice_set}
use Rattle.std.specs.List.{AllZip}
use Rattle.std.proofs.lemmas.Bool.{cases_Bool, cases_lt}
use Rattle.std.proofs.lemmas.List.{append-nil, drop_all, length-append, length-map, take_all}
use Rattle.ror_text.specs.FirstFault.{IsFirst, IsRefusedBy}
use Rattle.ror_text.proofs.FirstFaultLemmas.{refused_not_passed}
use Rattle.ror_statement.specs.declared.statement.Statement.{Statement}
use Rattle.ror_statement.specs.declared.question.Question.{Question}
use Rattle.ror_statement.specs.declared.question.Question.TheVariants.{Consistent, Necessary, Possible}
use Rattle.ror_statement.specs.declared.question.Conclusion.TheVariants as conclusions
use Rattle.ror_table.specs.Table.{DecisionTable}
use Rattle.ror_check.specs.declared.fault.CheckFault.{CheckFault}
use Rattle.ror_check.specs.declared.fault.CheckFault.TheVariants as checks
use Rattle.ror_check.specs.Proof.{IsProvedAnswer}
use Rattle.ror_check.specs.Faults.{FailsAnswer, IsEarlierFault}
use Rattle.ror_check.proofs.Checking.{some_same}
use Rattle.ror_check.proofs.FirstFaults.{passes_each_test}
use Rattle.ror_confidence.specs.declared.due.Due.{Due}
use Rattle.ror_confidence.specs.declared.fault.SpanCheckFault.{SpanCheckFault}
use Rattle.ror_confidence.specs.declared.fault.SpanCheckFault.TheVariants as faults
use Rattle.ror_confidence.specs.declared.level.LevelChecker.{LevelChecker}
use Rattle.ror_confidence.specs.declared.span.LevelAnswer.{LevelAnswer}
use Rattle.ror_confidence.specs.declared.span.Span.{Span}
use Rattle.ror_confidence.specs.Levels.{list_of_level}
use Rattle.ror_confidence.specs.Proof.{concludes, dues_of, due_below, due_from, is_in_range, IsProvedDue, IsProvedSpan}
use Rattle.ror_confidence.specs.Faults.{FailsDue, FailsSpan, IsEarlierSpanFault, place_of_answer, place_of_due}
use Rattle.ror_confidence.specs.Steps.{AreCheckers, AreProvedBefore, IsCheckerOfLevel, IsDueOver, lists_of, RefusesAnswers, refused_at}
use Rattle.ror_confidence.specs.Spans.{AreLevelLists, IsSpan}
use Rattle.ror_confidence.proofs.Truth.{proved_is_true}

-- ---- one answer

fails_answer : (t : DecisionTable) (list : List Statement) (due : Due) (x : LevelAnswer) (g : CheckFault) → concludes due.conclusion x.answer.verdict ≡ true → FailsDue t list due x g → FailsAnswer t list due.question x.answer g
fails_answer t list due x checks.WrongQuestion is h = h
fails_answer t list due x checks.WrongVerdict is (inl not) = absurd cc
fails_answer t list due x checks.WrongVerdict is (inr h) = h
fails_answer t list due x checks.PartCount is h = h
fails_answer t list due x (checks.Base r) is h = h
fails_answer t list due x (checks.Part k r) is h = h
fails_answer t list due x checks.Memory is h = h

due_passes : (t : DecisionTable) (lists : List (List Statement)) (due : Due) (x : LevelAnswer) (g : CheckFault) → IsProvedDue t lists due x → FailsDue t (list_of_level lists due.level) due x g → ⊥
due_passes t lists due x g p fails =
    let over = list_of_level lists due.level in
    passes_each_test t over due.question x.answer g p.proved (fails_answer t over due x g p.conclusion fails)

-- ---- answer after answer

pub proved_more : (t : DecisionTable) (lists : List (List Statement)) (dues : List Due) (xs : List LevelAnswer) (i : ℕ) (due : Due) (x : LevelAnswer) → AreProvedBefore t lists dues xs i → slice_get dues i ≡ Some due → slice_get xs i ≡ Some x → IsProvedDue t lists due x → AreProvedBefore t lists dues xs (i + 1)
proved_more t lists dues xs i due x before due_here here p j d y under due_there there = elim (cases_lt j i) [
  | inl earlier ↦ before j d y earlier due_there there
  | inr late ↦
      let same : j ≡ i = omega (arith, under, late) in
      let one : due ≡ d = some_same (sym due_here ∙ ap (slice_get dues) (sym same) ∙ due_there) in
      let two : x ≡ y = some_same (sym here ∙ ap (slice_get xs) (sym same) ∙ there) in
      subst (λ (e : Due). IsProvedDue t lists e y) one (subst (IsProvedDue t lists due) two p)
]

pub all_proved : (t : DecisionTable) (lists : List (List Statement)) (dues : List Due) (xs : List LevelAnswer) → length dues ≡ length xs → AreProvedBefore t lists dues xs (length xs) → AllZip (IsProvedDue t lists) dues xs
all_proved t lists [] [] same h = tt
all_proved t lists [] (x ∷ xs) same h = absurd (omega (arith, same))
all_proved t lists (due ∷ dues) [] same h = absurd (omega (arith, same))
all_proved t lists (due ∷ dues) (x ∷ xs) same h = (h 0 due x (omega arith) refl refl, all_proved t lists dues xs (omega (arith, same)) (λ j d y under due_there there. h (suc j) d y (omega (arith, under)) due_there there))

zip_at : (t : DecisionTable) (lists : List (List Statement)) (dues : List Due) (xs : List LevelAnswer) (i : ℕ) (due : Due) (x : LevelAnswer) → AllZip (IsProvedDue t lists) dues xs → slice_get dues i ≡ Some due → slice_get xs i ≡ Some x → IsProvedDue t lists due x
zip_at t lists [] [] i due x h due_here here = absurd cc
zip_at t lists [] (y ∷ xs) i due x h due_here here = absurd h
zip_at t lists (d ∷ dues) [] i due x h due_here here = absurd h
zip_at t lists (d ∷ dues) (y ∷ xs) zero due x h due_here here = subst (IsProvedDue t lists due) (some_same here) (subst (λ (e : Due). IsProvedDue t lists e y) (some_same due_here) h.0)
zip_at t lists (d ∷ dues) (y ∷ xs) (suc i) due x h due_here here = zip_at t lists dues xs i due x h.1 due_here here

question_of_proved : (t : DecisionTable) (lists : List (List Statement)) (due : Due) (x : LevelAnswer) → IsProvedDue t lists due x → place_of_answer x ≡ place_of_due due
question_of_proved t lists due x p = let one = p.level in let two = p.proved.question in cc

pub zip_shape : (t : DecisionTable) (lists : List (List Statement)) (dues : List Due) (xs : List LevelAnswer) → AllZip (IsProvedDue t lists) dues xs → map place_of_answer xs ≡ map place_of_due dues
zip_shape t lists [] [] h = refl
zip_shape t lists [] (x ∷ xs) h = absurd h
zip_shape t lists (due ∷ dues) [] h = absurd h
zip_shape t lists (due ∷ dues) (x ∷ xs) h = let one = question_of_proved t lists due x h.0 in let more = zip_shape t lists dues xs h.1 in cc

pub shape_at : (dues : List Due) (xs : List LevelAnswer) (i : ℕ) (due : Due) (x : LevelAnswer) → map place_of_answer xs ≡ map place_of_due dues → slice_get dues i ≡ Some due → slice_get xs i ≡ Some x → (x.level ≡ due.level) × (x.answer.question ≡ due.question)
shape_at [] [] i due x same due_here here = absurd cc
shape_at [] (y ∷ xs) i due x same due_here here = absurd cc
shape_at (d ∷ dues) [] i due x same due_here here = absurd cc
shape_at (d ∷ dues) (y ∷ xs) zero due x same due_here here =
    let one : y ≡ x = some_same here in
    let two : d ≡ due = some_same due_here in
    let heads : place_of_answer y ≡ place_of_due d = cc in (
      sym (ap (λ (z : LevelAnswer). z.level) one) ∙ ap (λ (p : ℕ × Question). p.0) heads ∙ ap (λ (e : Due). e.level) two,
      sym (ap (λ (z : LevelAnswer). z.answer.question) one) ∙ ap (λ (p : ℕ × Question). p.1) heads ∙ ap (λ (e : Due). e.question) two,
    )
shape_at (d ∷ dues) (y ∷ xs) (suc i) due x same due_here here = shape_at dues xs i due x (let tails : map place_of_answer xs ≡ map place_of_due dues = cc in tails) due_here here

pub shape_length : (dues : List Due) (xs : List LevelAnswer) → map place_of_answer xs ≡ map place_of_due dues → length dues ≡ length xs
shape_length dues xs same = sym (length-map dues place_of_due) ∙ ap length (sym same) ∙ length-map xs place_of_answer

pub proved_due : (t : DecisionTable) (lists : List (List Statement)) (list : List Statement) (due : Due) (x : LevelAnswer) → list ≡ list_of_level lists due.level → x.level ≡ due.level → IsDueOver t list due x → IsProvedDue t lists due x
proved_due t lists list due x same level over = record {
  level = level;
  conclusion = over.conclusion;
  proved = subst (λ (l : List Statement). IsProvedAnswer t l due.question x.answer) same over.proved;
}

at_place : (t : DecisionTable) (lists : List (List Statement)) (dues : List Due) (xs : List LevelAnswer) (i : ℕ) (due : Due) (x : LevelAnswer) (g : CheckFault) → AreProvedBefore t lists dues xs i → slice_get dues i ≡ Some due → slice_get xs i ≡ Some x → IsFirst (FailsDue t (list_of_level lists due.level) due x) IsEarlierFault g → RefusesAnswers t lists dues xs (faults.Answer (i + 1) g)
at_place t lists dues xs i due x g before due_here here first = (
  record { due = due; answer = x; before = i; counted = refl; due_there = due_here; there = here; first = first },
  λ n is. let same : n ≡ i = omega (arith, is) in rw same before,
)

pub answers_refused : (t : DecisionTable) (lists : List (List Statement)) (list : List Statement) (dues : List Due) (xs : List LevelAnswer) (i : ℕ) (due : Due) (x : LevelAnswer) (g : CheckFault) → list ≡ list_of_level lists due.level → AreProvedBefore t lists dues xs i → slice_get dues i ≡ Some due → slice_get xs i ≡ Some x → IsRefusedBy (FailsDue t list due x) IsEarlierFault checks.Memory g → RefusesAnswers t lists dues xs (refused_at (i + 1) g)
answers_refused t lists list dues xs i due x g same before due_here here refused = by g (subst (λ (l : List Statement). IsRefusedBy (FailsDue t l due x) IsEarlierFault checks.Memory g) same refused)
  where
    by : (e : CheckFault) → IsRefusedBy (FailsDue t (list_of_level lists due.level) due x) IsEarlierFault checks.Memory e → RefusesAnswers t lists dues xs (refused_at (i + 1) e)
    by checks.Memory first = tt
    by checks.WrongQuestion first = at_place t lists dues xs i due x checks.WrongQuestion before due_here here (first (λ e. cc))
    by checks.WrongVerdict first = at_place t lists dues xs i due x checks.WrongVerdict before due_here here (first (λ e. cc))
    by checks.PartCount first = at_place t lists dues xs i due x checks.PartCount before due_here here (first (λ e. cc))
    by (checks.Base r) first = at_place t lists dues xs i due x (checks.Base r) before due_here here (first (λ e. cc))
    by (checks.Part k r) first = at_place t lists dues xs i due x (checks.Part k r) before due_here here (first (λ e. cc))

-- ---- what is due is at a level

-- ---- all tests

pub span_passes : (t : DecisionTable) (lists : List (List Statement)) (a b : ℕ) (x : Span) (fault : SpanCheckFault) → IsProvedSpan t lists a b x → FailsSpan t lists a b x fault → ⊥
span_passes t lists a b x faults.Range p fails = let is = p.range in absurd cc
span_passes t lists a b x faults.Shape p fails = fails (zip_shape t lists (dues_of (length lists) a b x.contradictory x.necessary x.possible) x.proof p.answers)
span_passes t lists a b x (faults.Answer k g) p at =
    due_passes t lists at.due at.answer g (zip_at t lists (dues_of (length lists) a b x.contradictory x.necessary x.possible) x.proof at.before at.due at.answer p.answers at.due_there at.there) at.first.fails
span_passes t lists a b x faults.Memory p fails = fails

pub not_proved : {A : Type 0} (t : DecisionTable) (lists : List (List Statement)) (a b : ℕ) (x : Span) (r : Result A SpanCheckFault) → IfErr r (IsRefusedBy (FailsSpan t lists a b x) IsEarlierSpanFault faults.Memory) → IfErr r (λ e. e ≢ faults.Memory → IsProvedSpan t lists a b x → ⊥)
not_proved t lists a b x r h = refused_not_passed (FailsSpan t lists a b x) IsEarlierSpanFault faults.Memory r (λ g p. span_passes t lists a b x g p) h

pub shape_refused : (t : DecisionTable) (lists : List (List Statement)) (a b : ℕ) (x : Span) → is_in_range (length lists) x.contradictory x.necessary x.possible ≡ true → map place_of_answer x.proof ≢ map place_of_due (dues_of (length lists) a b x.contradictory x.necessary x.possible) → IsRefusedBy (FailsSpan t lists a b x) IsEarlierSpanFault faults.Memory faults.Shape
shape_refused t lists a b x is other_shape ne = record { fails = other_shape; none_before = none }
  where
    none : (other : SpanCheckFault) → IsEarlierSpanFault other faults.Shape → FailsSpan t lists a b x other → ⊥
    none faults.Range earlier fails = absurd cc
    none faults.Shape (inl less) fails = absurd (omega arith)
    none faults.Shape (inr also) fails = let less = also.1 in absurd (omega arith)
    none (faults.Answer k g) (inl less) fails = absurd (omega arith)
    none (faults.Answer k g) (inr also) fails = let less = also.0 in absurd (omega arith)
    none faults.Memory earlier fails = fails

pub span_refused : (t : DecisionTable) (lists : List (List Statement)) (a b : ℕ) (x : Span) (fault : SpanCheckFault) → is_in_range (length lists) x.contradictory x.necessary x.possible ≡ true → map place_of_answer x.proof ≡ map place_of_due (dues_of (length lists) a b x.contradictory x.necessary x.possible) → RefusesAnswers t lists (dues_of (length lists) a b x.contradictory x.necessary x.possible) x.proof fault → IsRefusedBy (FailsSpan t lists a b x) IsEarlierSpanFault faults.Memory fault
span_refused t lists a b x faults.Range is shape h = absurd h
span_refused t lists a b x faults.Shape is shape h = absurd h
span_refused t lists a b x faults.Memory is shape h = λ ne. absurd (ne refl)
span_refused t lists a b x (faults.Answer k g) is shape h = λ ne. record { fails = h.0; none_before = none }
  where
    none : (other : SpanCheckFault) → IsEarlierSpanFault other (faults.Answer k g) → FailsSpan t lists a b x other → ⊥
    none faults.Range earlier fails = absurd cc
    none faults.Shape earlier fails = fails shape
    none (faults.Answer j f) (inl less) at = absurd (omega arith)
    none (faults.Answer j f) (inr same) at =
        let less = same.1 in
        let counted = at.counted in
        let last = h.0.counted in
        due_passes t lists at.due at.answer f (h.1 h.0.before last at.before at.due at.answer (omega arith) at.due_there at.there) at.first.fails
    none faults.Memory earlier fails = fails

-- ---- the checkers of the levels

-- the same statements stand where the level at a place was asked
pub same_lists : (levels : List LevelChecker) (i : ℕ) (d new : LevelChecker) → i < length levels → new.statements ≡ (get_or levels i d).statements → lists_of (slice_set levels i new) ≡ lists_of levels
same_lists [] i d new within same = absurd (omega (arith, within))
same_lists (level ∷ levels) zero d new within same = ap (λ (list : List Statement). list ∷ lists_of levels) same
same_lists (level ∷ levels) (suc i) d new within same = ap (λ (lists : List (List Statement)). level.statements ∷ lists) (same_lists levels i d new (omega (arith, within)) same)

pub checkers_set : (t : DecisionTable) (levels : List LevelChecker) (i : ℕ) (new : LevelChecker) → AreCheckers t levels → IsCheckerOfLevel t new → AreCheckers t (slice_set levels i new)
checkers_set t [] i new all is = tt
checkers_set t (level ∷ levels) zero new all is = (is, all.1)
checkers_set t (level ∷ levels) (suc i) new all is = (all.0, checkers_set t levels i new all.1 is)

list_there : (levels : List LevelChecker) (i : ℕ) (d : LevelChecker) → i < length levels → slice_index_or (lists_of levels) i [] ≡ (get_or levels i d).statements
list_there [] i d within = absurd (omega (arith, within))
list_there (level ∷ levels) zero d within = refl
list_there (level ∷ levels) (suc i) d within = list_there levels i d (omega (arith, within))

-- the statements of a level are those of its checker
pub list_of_checker : (levels : List LevelChecker) (lists : List (List Statement)) (level : ℕ) (d : LevelChecker) → level - 1 < length levels → lists_of levels ≡ lists → (get_or levels (level - 1) d).statements ≡ list_of_level lists level
list_of_checker levels lists level d within same = sym (list_there levels (level - 1) d within) ∙ ap (λ (ls : List (List Statement)). list_of_level ls level) same

-- what is read at a place where nothing is due
abbrev pub no_due : Due
no_due = record { level = 0; question = Consistent; conclusion = conclusions.Yes }

pub get_there : {X : Type 0} (xs : List X) (n : ℕ) (d : X) → n < length xs → slice_get xs n ≡ Some (slice_index_or xs n d)
get_there [] n d within = absurd (omega (arith, within))
get_there (x ∷ xs) zero d within = refl
get_there (x ∷ xs) (suc n) d within = get_there xs n d (omega (arith, within))

pub length-lists_of : (levels : List LevelChecker) → length (lists_of levels) ≡ length levels
length-lists_of levels = length-map levels (λ (x : LevelChecker). x.statements)

pub same_count : (levels new : List LevelChecker) → lists_of new ≡ lists_of levels → length new ≡ length levels
same_count levels new same = sym (length-lists_of new) ∙ ap length same ∙ length-lists_of levels

-- ---- the span is refused, or accepted

-- so many levels as there are checkers, and what is due of a span over them
pub record IsDueOf (levels : List LevelChecker) (n a b : ℕ) (x : Span) (dues : List Due) : Type 0 where
  pub count : n ≡ length levels
  pub range : is_in_range n x.contradictory x.necessary x.possible ≡ true
  pub all : dues ≡ dues_of n a b x.contradictory x.necessary x.possible

abbrev dues_over : List LevelChecker → ℕ → ℕ → Span → List Due
dues_over levels a b x = dues_of (length (lists_of levels)) a b x.contradictory x.necessary x.possible

dues_are : (levels : List LevelChecker) (n a b : ℕ) (x : Span) (dues : List Due) → IsDueOf levels n a b x dues → dues ≡ dues_over levels a b x
dues_are levels n a b x dues is = is.all ∙ ap (λ (m : ℕ). dues_of m a b x.contradictory x.necessary x.possible) (is.count ∙ sym (length-lists_of levels))

range_is : (levels : List LevelChecker) (n a b : ℕ) (x : Span) (dues : List Due) → IsDueOf levels n a b x dues → is_in_range (length (lists_of levels)) x.contradictory x.necessary x.possible ≡ true
range_is levels n a b x dues is = ap (λ (m : ℕ). is_in_range m x.contradictory x.necessary x.possible) (length-lists_of levels ∙ sym is.count) ∙ is.range

pub other_shape_refused : (t : DecisionTable) (levels : List LevelChecker) (n a b : ℕ) (x : Span) (dues : List Due) → IsDueOf levels n a b x dues → map place_of_answer x.proof ≢ map place_of_due dues → IsRefusedBy (FailsSpan t (lists_of levels) a b x) IsEarlierSpanFault faults.Memory faults.Shape
other_shape_refused t levels n a b x dues is other =
    shape_refused t (lists_of levels) a b x (range_is levels n a b x dues is) (λ same. other (same ∙ sym (ap (map place_of_due) (dues_are levels n a b x dues is))))

pub each_refused : {A : Type 0} (t : DecisionTable) (levels : List LevelChecker) (n a b : ℕ) (x : Span) (dues : List Due) (r : Result A SpanCheckFault) → IsDueOf levels n a b x dues → map place_of_answer x.proof ≡ map place_of_due dues → IfErr r (RefusesAnswers t (lists_of levels) dues x.proof) → IfErr r (IsRefusedBy (FailsSpan t (lists_of levels) a b x) IsEarlierSpanFault faults.Memory)
each_refused t levels n a b x dues (Ok u) is shape h = tt
each_refused t levels n a b x dues (Err fault) is shape h =
    let same = dues_are levels n a b x dues is in
    span_refused t (lists_of levels) a b x fault (range_is levels n a b x dues is) (shape ∙ ap (map place_of_due) same) (subst (λ (ds : List Due). RefusesAnswers t (lists_of levels) ds x.proof fault) same h)

pub each_accepted : {A : Type 0} (t : DecisionTable) (levels : List LevelChecker) (n a b : ℕ) (x : Span) (dues : List Due) (r : Result A SpanCheckFault) → IsDueOf levels n a b x dues → OnOk r (AllZip (IsProvedDue t (lists_of levels)) dues x.proof) → OnOk r (IsProvedSpan t (lists_of levels) a b x)
each_accepted t levels n a b x dues (Ok u) is all = record {
  range = range_is levels n a b x dues is;
  answers = subst (λ (ds : List Due). AllZip (IsProvedDue t (lists_of levels)) ds x.proof) (dues_are levels n a b x dues is) all;
}
each_accepted t levels n a b x dues (Err fault) is all = tt

pub accepted_true : {A : Type 0} (t : DecisionTable) (lists : List (List Statement)) (a b : ℕ) (x : Span) (r : Result A SpanCheckFault) → AreLevelLists t lists → a < length t.alternatives → b < length t.alternatives → OnOk r (IsProvedSpan t lists a b x) → OnOk r (IsSpan t lists a b x.contradictory x.necessary x.possible)
accepted_true t lists a b x (Ok u) levels first second proved = proved_is_true t lists a b x levels first second proved
accepted_true t lists a b x (Err fault) levels first second proved = tt

-- there are at most six answers
pub few_dues : (n a b c k p : ℕ) → length (dues_of n a b c k p) ≤ 6
few_dues n a b c k p =
    let f1 = due_from Consistent c (n + 1) in
    let b1 = due_below Consistent c in
    let f2 = due_from (Necessary a b) k c in
    let b2 = due_below (Necessary a b) k in
    let b3 = due_below (Possible a b) (p + 1) in
    let f3 = due_from (Possible a b) (p + 1) c in
    omega (
      arith,
      length-append (f1 ++ b1 ++ f2 ++ b2 ++ b3) f3,
      length-append (f1 ++ b1 ++ f2 ++ b2) b3,
      length-append (f1 ++ b1 ++ f2) b2,
      length-append (f1 ++ b1) f2,
      length-append f1 b1,
      one_from Consistent c (n + 1),
      one_below Consistent c,
      one_from (Necessary a b) k c,
      one_below (Necessary a b) k,
      one_below (Possible a b) (p + 1),
      one_from (Possible a b) (p + 1) c,
    )
  where
    one_from : (q : Question) (level end : ℕ) → length (due_from q level end) ≤ 1
    one_from q level end = elim (cases_Bool (nat_lt level end)) [ inl is ↦ rw is (omega arith) | inr not ↦ rw not (omega arith) ]

    one_below : (q : Question) (level : ℕ) → length (due_below q level) ≤ 1
    one_below q level = elim (cases_Bool (nat_lt 1 level)) [ inl is ↦ rw is (omega arith) | inr not ↦ rw not (omega arith) ]

-- the checkers again, where each checked one has its statements
pub same_after : (levels new : List LevelChecker) (n : ℕ) → n ≡ length levels → lists_of new ≡ lists_of levels → lists_of (take n (new ++ drop (length new) levels)) ≡ lists_of levels
same_after levels new n count same =
    let equal : length new ≡ length levels = same_count levels new same in
    let none : drop (length new) levels ≡ [] = drop_all (length new) levels (omega (arith, equal)) in
    let is : take n (new ++ drop (length new) levels) ≡ new = rw (none, append-nil) (take_all n new (omega (arith, count, equal))) in
    ap lists_of is ∙ same
