-- The fault of a line is the first of its tests that it fails.
use Rattle.std.proofs.Common.{◌≡◌, ℕ, ◌+◌, ◌<◌, Bool, true, false, not, cond, eqb, ltb, leb, List, ◌∷◌, [], length, drop, Option, Some, None, Result, Ok, Err, refl, sym, ap, subst, ◌∙◌, inl, inr, arith}
use Rattle.std.specs.Prelude.{◌⊎◌, codes, Contains}
use Rattle.std.specs.Str.{bytes_eq}
use Rattle.std.proofs.lemmas.List.{length-drop}
use Rattle.std.proofs.lemmas.Bool.{cases_order, ltb-true, ltb-false, le-ltb, leb-true, ne_eqb, eqb-false, false≢true, not-false, not_from_true}
use Rattle.std.proofs.lemmas.Map.Made.{is_member-Decides}
use Rattle.std.proofs.lemmas.Slice.Eq.{bytes_eq-Decides}
use Rattle.ror_text.specs.Ids.{is_id}
use Rattle.ror_text.specs.Lines.{has_control, word_at}
use Rattle.ror_text.specs.Numbers.{count_of}
use Rattle.ror_text.specs.Reading.{◌>>=◌, refuse, need}
use Rattle.ror_table.specs.declared.amount.Amount.{Amount}
use Rattle.ror_table.specs.declared.direction.Direction.{Direction}
use Rattle.ror_table.specs.declared.fault.TableFault.{TableFault}
use Rattle.ror_table.specs.declared.fault.TableKind.{TableKind}
use Rattle.ror_table.specs.declared.fault.TableKind.TheVariants.{BadLine, RepeatedId, MissingPerformance, BadNumber, TooMany}
use Rattle.ror_table.specs.declared.fault.What.{What}
use Rattle.ror_table.specs.declared.fault.What.TheVariants.{Alternatives, Criteria, Classes}
use Rattle.ror_table.specs.declared.limits.TheConstants.{MOST_ALTERNATIVES, MOST_CLASSES, MOST_CRITERIA}
use Rattle.ror_table.specs.declared.plain.Version.{Version}
use Rattle.ror_table.specs.Table.{DecisionTable, criterion_ids, alternative_ids}
use Rattle.ror_table.specs.Draft.{has_id, add_criterion, add_alternative, with_criterion}
use Rattle.ror_table.specs.Plain.{at_line, direction_of, linear_of, performances_of, is_past_criteria, criterion_line, classes_line, alternative_line, known_line, body_line}
use Rattle.ror_table.specs.Grammar.{LineWords, direction_word}
use Rattle.ror_table.specs.LineFaults.{IsNamed, IsEarly, IsCriterionLine, IsClassesLine, IsAlternativeLine, HasForm, ArePerformances, FailsLine, line_stage, IsFirstOfLine}
use Rattle.ror_table.proofs.GrammarLemmas.{is_early}
use Rattle.ror_table.proofs.LineSteps.{Adds, body_line_adds, is_word, two_words, two_and_more, criterion_is, linear_of_words, linear_of-linear_words, enough_words, direction_of-direction_word, are_written, written_are, length-written, after_refuse}
use Rattle.ror_table.proofs.LineSteps.Adds.{a_criterion, the_classes, an_alternative}

-- ---- tests

pub refused : (f : TableFault) (b : Bool) (r : Result DecisionTable TableFault) (e : TableFault) → (refuse f b >>= λ _. r) ≡ Err e → ((b ≡ true) × (e ≡ f)) ⊎ ((b ≡ false) × (r ≡ Err e))
refused f true r e is = inl (refl, cc)
refused f false r e is = inr (refl, is)

pub true_not_false : (b : Bool) → b ≡ true → b ≡ false → ⊥
true_not_false b t f = false≢true (sym f ∙ t)

-- ---- what stands at the front of a line

apart : (a b : List ℕ) (line : LineWords) → bytes_eq a b ≡ false → IsNamed a line → IsNamed b line → ⊥
apart a b line differ p q = false≢true (sym differ ∙ (bytes_eq-Decides a b).1 (sym p ∙ q))

named_criterion : (version : Version) (t : DecisionTable) (line : LineWords) → IsCriterionLine version t line → IsNamed (codes "criterion") line
named_criterion version t line h = ap (λ (l : LineWords). word_at l 0) h.is

named_classes : (t : DecisionTable) (line : LineWords) → IsClassesLine t line → IsNamed (codes "classes") line
named_classes t line h = ap (λ (l : LineWords). word_at l 0) h.is

named_alternative : (t : DecisionTable) (line : LineWords) → IsAlternativeLine t line → IsNamed (codes "alternative") line
named_alternative t line h = ap (λ (l : LineWords). word_at l 0) h.is

criterion_of : (version : Version) (t : DecisionTable) (line : LineWords) → IsNamed (codes "criterion") line → HasForm version t line → IsCriterionLine version t line
criterion_of version t line name form = elim form.known [
  | inl h ↦ h
  | inr (inl h) ↦ absurd (apart (codes "criterion") (codes "classes") line refl name (named_classes t line h))
  | inr (inr h) ↦ absurd (apart (codes "criterion") (codes "alternative") line refl name (named_alternative t line h))
]

classes_of : (version : Version) (t : DecisionTable) (line : LineWords) → IsNamed (codes "classes") line → HasForm version t line → IsClassesLine t line
classes_of version t line name form = elim form.known [
  | inl h ↦ absurd (apart (codes "classes") (codes "criterion") line refl name (named_criterion version t line h))
  | inr (inl h) ↦ h
  | inr (inr h) ↦ absurd (apart (codes "classes") (codes "alternative") line refl name (named_alternative t line h))
]

alternative_of : (version : Version) (t : DecisionTable) (line : LineWords) → IsNamed (codes "alternative") line → HasForm version t line → IsAlternativeLine t line
alternative_of version t line name form = elim form.known [
  | inl h ↦ absurd (apart (codes "alternative") (codes "criterion") line refl name (named_criterion version t line h))
  | inr (inl h) ↦ absurd (apart (codes "alternative") (codes "classes") line refl name (named_classes t line h))
  | inr (inr h) ↦ h
]

early_not_past : (t : DecisionTable) → IsEarly t → is_past_criteria t ≡ false
early_not_past t early =
    let none : eqb t.classes 0 ≡ true = ap (λ n. eqb n 0) early.classes in
    let nor : eqb (length t.alternatives) 0 ≡ true = ap (λ xs. eqb (length xs) 0) early.alternatives in
    rw (none, nor) refl

-- ---- first faults

-- no test that comes before a stage fails
no_earlier : (version : Version) (t : DecisionTable) (line : LineWords) (k : ℕ) → (0 < k → HasForm version t line) → (1 < k → FailsLine version t line RepeatedId → ⊥) → (2 < k → FailsLine version t line MissingPerformance → ⊥)
    → (3 < k → FailsLine version t line BadNumber → ⊥) → (4 < k → (what : What) → FailsLine version t line (TooMany what) → ⊥) → (other : TableKind) → line_stage other < k → FailsLine version t line other → ⊥
no_earlier version t line k form fresh complete written room BadLine less fails = fails (form less)
no_earlier version t line k form fresh complete written room RepeatedId less fails = fresh less fails
no_earlier version t line k form fresh complete written room MissingPerformance less fails = complete less fails
no_earlier version t line k form fresh complete written room BadNumber less fails = written less fails
no_earlier version t line k form fresh complete written room (TooMany what) less fails = room less what fails
no_earlier version t line k form fresh complete written room _ less fails = fails

stage_small : (kind : TableKind) → line_stage kind < 5
stage_small BadLine = omega arith
stage_small RepeatedId = omega arith
stage_small MissingPerformance = omega arith
stage_small BadNumber = omega arith
stage_small (TooMany what) = omega arith
stage_small _ = omega arith

-- a fault at a line, and the first of that line
abbrev FirstAt : Version → ℕ → DecisionTable → LineWords → TableFault → Type 0
FirstAt version n t line e = (e.line ≡ n) × IsFirstOfLine version t line e.kind

first_at : (version : Version) (n : ℕ) (t : DecisionTable) (line : LineWords) (kind : TableKind) (e : TableFault) → e ≡ at_line n kind → IsFirstOfLine version t line kind → FirstAt version n t line e
first_at version n t line kind e is first = subst (FirstAt version n t line) (sym is) (refl, first)

bad_at : (version : Version) (n : ℕ) (t : DecisionTable) (line : LineWords) (e : TableFault) → e ≡ at_line n BadLine → (HasForm version t line → ⊥) → FirstAt version n t line e
bad_at version n t line e is no_form = first_at version n t line BadLine e is (record { fails = no_form; none_before = λ other less fails. absurd (omega (arith, less)) })

-- ---- a line of a criterion

data CriterionExit (f g h e : TableFault) (b1 : Bool) (o : Option Direction) (n : Option Bool) (b2 b3 b4 b5 : Bool) : Type 0 where
  no_form : e ≡ f → (b1 ≡ false → (d : Direction) → o ≡ Some d → (l : Bool) → n ≡ Some l → b2 ≡ false → b3 ≡ false → ⊥) → CriterionExit f g h e b1 o n b2 b3 b4 b5
  repeats : (d : Direction) → o ≡ Some d → (l : Bool) → n ≡ Some l → b2 ≡ false → b3 ≡ false → b4 ≡ true → e ≡ g → CriterionExit f g h e b1 o n b2 b3 b4 b5
  is_full : (d : Direction) → o ≡ Some d → (l : Bool) → n ≡ Some l → b2 ≡ false → b3 ≡ false → b4 ≡ false → b5 ≡ true → e ≡ h → CriterionExit f g h e b1 o n b2 b3 b4 b5

abbrev as_table : DecisionTable → Result DecisionTable TableFault
as_table t = Ok t

criterion_exit : (f g h : TableFault) (b1 : Bool) (o : Option Direction) (n : Option Bool) (b2 b3 b4 b5 : Bool) (k : Direction → Bool → DecisionTable) (e : TableFault)
    → (refuse f b1 >>= λ _. need f o >>= λ d. need f n >>= λ l. refuse f b2 >>= λ _. (refuse f b3 >>= λ _. refuse g b4) >>= λ _. refuse h b5 >>= λ _. as_table (k d l)) ≡ Err e → CriterionExit f g h e b1 o n b2 b3 b4 b5
criterion_exit f g h true o n b2 b3 b4 b5 k e is = let at : e ≡ f = cc in no_form at (λ p d q l m r s. false≢true (sym p))
criterion_exit f g h false None n b2 b3 b4 b5 k e is = let at : e ≡ f = cc in no_form at (λ p d q l m r s. absurd cc)
criterion_exit f g h false (Some d) None b2 b3 b4 b5 k e is = let at : e ≡ f = cc in no_form at (λ p d' q l m r s. absurd cc)
criterion_exit f g h false (Some d) (Some l) true b3 b4 b5 k e is = let at : e ≡ f = cc in no_form at (λ p d' q l' m r s. false≢true (sym r))
criterion_exit f g h false (Some d) (Some l) false true b4 b5 k e is = let at : e ≡ f = cc in no_form at (λ p d' q l' m r s. false≢true (sym s))
criterion_exit f g h false (Some d) (Some l) false false true b5 k e is = repeats d refl l refl refl refl refl cc
criterion_exit f g h false (Some d) (Some l) false false false true k e is = is_full d refl l refl refl refl refl refl cc
criterion_exit f g h false (Some d) (Some l) false false false false k e is = absurd cc

criterion_form : (version : Version) (t : DecisionTable) (line : LineWords) (d : Direction) (l : Bool) → has_control line ≡ false → IsNamed (codes "criterion") line → direction_of (word_at line 2) ≡ Some d → linear_of version line ≡ Some l
    → is_past_criteria t ≡ false → not (is_id (word_at line 1)) ≡ false → HasForm version t line
criterion_form version t line d l visible name direction linear early valid =
    let words = linear_of_words version line l linear in
    record {
      visible = visible;
      known = inl (record {
        criterion = record { id = word_at line 1; direction = d; linear = l };
        is = criterion_is version line d l name direction words;
        linear = words.may;
        valid = not-false (is_id (word_at line 1)) valid;
        early = is_early t early;
      });
    }

-- a line of a criterion fails no test of other lines
criterion_complete : (version : Version) (t : DecisionTable) (line : LineWords) → IsNamed (codes "criterion") line → FailsLine version t line MissingPerformance → ⊥
criterion_complete version t line name fails = apart (codes "criterion") (codes "alternative") line refl name fails.0

criterion_written : (version : Version) (t : DecisionTable) (line : LineWords) → IsNamed (codes "criterion") line → FailsLine version t line BadNumber → ⊥
criterion_written version t line name (inl fails) = apart (codes "criterion") (codes "classes") line refl name fails.0
criterion_written version t line name (inr fails) = apart (codes "criterion") (codes "alternative") line refl name fails.0

pub is_there : (ids : List (List ℕ)) (id : List ℕ) → has_id ids id ≡ true → Contains ids id
is_there ids id h = (is_member-Decides bytes_eq-Decides ids id).0 h

pub is_absent : (ids : List (List ℕ)) (id : List ℕ) → has_id ids id ≡ false → Contains ids id → ⊥
is_absent ids id h there = false≢true (sym h ∙ (is_member-Decides bytes_eq-Decides ids id).1 there)

criterion_fresh : (version : Version) (t : DecisionTable) (line : LineWords) → IsNamed (codes "criterion") line → has_id (criterion_ids t) (word_at line 1) ≡ false → FailsLine version t line RepeatedId → ⊥
criterion_fresh version t line name fresh (inl fails) = is_absent (criterion_ids t) (word_at line 1) fresh fails.1
criterion_fresh version t line name fresh (inr fails) = apart (codes "criterion") (codes "alternative") line refl name fails.0

criterion_first : (version : Version) (n : ℕ) (t : DecisionTable) (line : LineWords) (e : TableFault) → has_control line ≡ false → IsNamed (codes "criterion") line → criterion_line version n t line ≡ Err e → FirstAt version n t line e
unfolding criterion_line with_criterion
criterion_first version n t line e visible name is =
    let id : List ℕ = word_at line 1 in
    elim (criterion_exit (at_line n BadLine) (at_line n RepeatedId) (at_line n (TooMany Criteria)) (ltb (length line) 3) (direction_of (word_at line 2)) (linear_of version line) (is_past_criteria t) (not (is_id id)) (has_id (criterion_ids t) id) (leb MOST_CRITERIA (length t.criteria)) (λ d l. add_criterion t id (record { direction = d; linear = l })) e is) [
      | no_form at fails ↦ bad_at version n t line e at (λ form.
          let h = criterion_of version t line name form in
          let c = h.criterion in
          fails (ap (λ (l : LineWords). ltb (length l) 3) h.is ∙ enough_words (codes "criterion") c.id (direction_word c.direction) c.linear)
          c.direction (ap (λ (l : LineWords). direction_of (word_at l 2)) h.is ∙ direction_of-direction_word c.direction)
          c.linear (ap (linear_of version) h.is ∙ linear_of-linear_words version (codes "criterion") c.id (direction_word c.direction) c.linear h.linear)
          (early_not_past t h.early) (ap (λ (l : LineWords). not (is_id (word_at l 1))) h.is ∙ not_from_true (is_id c.id) h.valid))
      | repeats d direction l linear early valid member at ↦
          let form = criterion_form version t line d l visible name direction linear early valid in
          first_at version n t line RepeatedId e at (record {
            fails = inl (name, is_there (criterion_ids t) id member);
            none_before = no_earlier version t line 1 (λ l. form) (λ l. absurd (omega (arith, l))) (λ l. absurd (omega (arith, l))) (λ l. absurd (omega (arith, l))) (λ l. absurd (omega (arith, l)));
          })
      | is_full d direction l linear early valid fresh full at ↦
          let form = criterion_form version t line d l visible name direction linear early valid in
          first_at version n t line (TooMany Criteria) e at (record {
            fails = (name, leb-true MOST_CRITERIA (length t.criteria) full);
            none_before = no_earlier version t line 4 (λ l. form) (λ l. criterion_fresh version t line name fresh) (λ l. criterion_complete version t line name) (λ l. criterion_written version t line name) (λ l. absurd (omega (arith, l)));
          })
    ]

-- ---- a line of classes

data ClassesExit (f g h e : TableFault) (b1 b2 : Bool) (o : Option ℕ) (b3 b4 : ℕ → Bool) : Type 0 where
  no_classes : e ≡ f → (b1 ≡ false → b2 ≡ false → ⊥) → ClassesExit f g h e b1 b2 o b3 b4
  no_count : b1 ≡ false → b2 ≡ false → e ≡ g → ((m : ℕ) → o ≡ Some m → b3 m ≡ false → ⊥) → ClassesExit f g h e b1 b2 o b3 b4
  too_many : b1 ≡ false → b2 ≡ false → (m : ℕ) → o ≡ Some m → b3 m ≡ false → b4 m ≡ true → e ≡ h → ClassesExit f g h e b1 b2 o b3 b4

some_is : (m n : ℕ) → Some m ≡ Some n → m ≡ n
some_is m n e = cc

classes_exit : (f g h : TableFault) (b1 b2 : Bool) (o : Option ℕ) (b3 b4 : ℕ → Bool) (k : ℕ → DecisionTable) (e : TableFault)
    → (refuse f b1 >>= λ _. refuse f b2 >>= λ _. need g o >>= λ m. refuse g (b3 m) >>= λ _. refuse h (b4 m) >>= λ _. as_table (k m)) ≡ Err e → ClassesExit f g h e b1 b2 o b3 b4
classes_exit f g h true b2 o b3 b4 k e is = let at : e ≡ f = cc in no_classes at (λ p q. false≢true (sym p))
classes_exit f g h false true o b3 b4 k e is = let at : e ≡ f = cc in no_classes at (λ p q. false≢true (sym q))
classes_exit f g h false false None b3 b4 k e is = let at : e ≡ g = cc in no_count refl refl at (λ m some. absurd cc)
classes_exit f g h false false (Some m) b3 b4 k e is =
    elim (refused g (b3 m) (refuse h (b4 m) >>= λ _. as_table (k m)) e is) [
      | inl zero ↦ no_count refl refl zero.1 (λ n same not_zero. false≢true (sym not_zero ∙ ap b3 (sym (some_is m n same)) ∙ zero.0))
      | inr rest ↦
          elim (refused h (b4 m) (as_table (k m)) e rest.1) [
            | inl many ↦ too_many refl refl m refl rest.0 many.0 many.1
            | inr none ↦ absurd (let no = none.1 in cc)
          ]
    ]

classes_form : (version : Version) (t : DecisionTable) (line : LineWords) → has_control line ≡ false → IsNamed (codes "classes") line → not (eqb (length line) 2) ≡ false → is_past_criteria t ≡ false → HasForm version t line
classes_form version t line visible name two early = record {
  visible = visible;
  known = inr (inl (record {
    word = word_at line 1;
    is = two_words line (not-false (eqb (length line) 2) two) ∙ ap (λ (w : List ℕ). w ∷ word_at line 1 ∷ []) name;
    early = is_early t early;
  }));
}

classes_fresh : (version : Version) (t : DecisionTable) (line : LineWords) → IsNamed (codes "classes") line → FailsLine version t line RepeatedId → ⊥
classes_fresh version t line name (inl fails) = apart (codes "classes") (codes "criterion") line refl name fails.0
classes_fresh version t line name (inr fails) = apart (codes "classes") (codes "alternative") line refl name fails.0

classes_complete : (version : Version) (t : DecisionTable) (line : LineWords) → IsNamed (codes "classes") line → FailsLine version t line MissingPerformance → ⊥
classes_complete version t line name fails = apart (codes "classes") (codes "alternative") line refl name fails.0

classes_written : (version : Version) (t : DecisionTable) (line : LineWords) (m : ℕ) → IsNamed (codes "classes") line → count_of (word_at line 1) ≡ Some m → eqb m 0 ≡ false → FailsLine version t line BadNumber → ⊥
classes_written version t line m name count some (inl fails) = let positive = eqb-false m 0 some in fails.1 (m, count, omega arith)
classes_written version t line m name count some (inr fails) = apart (codes "classes") (codes "alternative") line refl name fails.0

no_some_count : (word : List ℕ) → ((m : ℕ) → count_of word ≡ Some m → eqb m 0 ≡ false → ⊥) → (m : ℕ) → count_of word ≡ Some m → 0 < m → ⊥
no_some_count word none m is some = none m is (ne_eqb m 0 (λ (e : m ≡ 0). omega arith))

classes_first : (version : Version) (n : ℕ) (t : DecisionTable) (line : LineWords) (e : TableFault) → has_control line ≡ false → IsNamed (codes "classes") line → classes_line n t line ≡ Err e → FirstAt version n t line e
unfolding classes_line
classes_first version n t line e visible name is =
    elim (classes_exit (at_line n BadLine) (at_line n BadNumber) (at_line n (TooMany Classes)) (not (eqb (length line) 2)) (is_past_criteria t) (count_of (word_at line 1)) (λ m. eqb m 0) (λ m. ltb MOST_CLASSES m) (λ m. record t { classes = m }) e is) [
      | no_classes at fails ↦ bad_at version n t line e at (λ form.
          let h = classes_of version t line name form in
          fails (ap (λ (l : LineWords). not (eqb (length l) 2)) h.is) (early_not_past t h.early))
      | no_count two early at none ↦
          let form = classes_form version t line visible name two early in
          first_at version n t line BadNumber e at (record {
            fails = inl (name, λ count. no_some_count (word_at line 1) none count.0 count.1 count.2);
            none_before = no_earlier version t line 3 (λ l. form) (λ l. classes_fresh version t line name) (λ l. classes_complete version t line name) (λ l. absurd (omega (arith, l))) (λ l. absurd (omega (arith, l)));
          })
      | too_many two early m count some many at ↦
          let form = classes_form version t line visible name two early in
          first_at version n t line (TooMany Classes) e at (record {
            fails = (name, (m, count, ltb-true MOST_CLASSES m many));
            none_before = no_earlier version t line 4 (λ l. form) (λ l. classes_fresh version t line name) (λ l. classes_complete version t line name) (λ l. classes_written version t line m name count some) (λ l. absurd (omega (arith, l)));
          })
    ]

-- ---- a line of an alternative

data AlternativeExit (f g h m l e : TableFault) (b1 b2 b3 b4 b5 : Bool) (o : Option (List Amount)) (b6 : Bool) : Type 0 where
  no_alternative : e ≡ f → (b1 ≡ false → b2 ≡ false → b3 ≡ false → ⊥) → AlternativeExit f g h m l e b1 b2 b3 b4 b5 o b6
  has_repeat : b1 ≡ false → b2 ≡ false → b3 ≡ false → b4 ≡ true → e ≡ g → AlternativeExit f g h m l e b1 b2 b3 b4 b5 o b6
  lacks_one : b1 ≡ false → b2 ≡ false → b3 ≡ false → b4 ≡ false → b5 ≡ true → e ≡ h → AlternativeExit f g h m l e b1 b2 b3 b4 b5 o b6
  no_number : b1 ≡ false → b2 ≡ false → b3 ≡ false → b4 ≡ false → b5 ≡ false → o ≡ None → e ≡ m → AlternativeExit f g h m l e b1 b2 b3 b4 b5 o b6
  no_room : b1 ≡ false → b2 ≡ false → b3 ≡ false → b4 ≡ false → b5 ≡ false → (ps : List Amount) → o ≡ Some ps → b6 ≡ true → e ≡ l → AlternativeExit f g h m l e b1 b2 b3 b4 b5 o b6

alternative_exit : (f g h m l : TableFault) (b1 b2 b3 b4 b5 : Bool) (o : Option (List Amount)) (b6 : Bool) (k : List Amount → DecisionTable) (e : TableFault)
    → (refuse f b1 >>= λ _. refuse f b2 >>= λ _. (refuse f b3 >>= λ _. refuse g b4) >>= λ _. refuse h b5 >>= λ _. need m o >>= λ ps. refuse l b6 >>= λ _. as_table (k ps)) ≡ Err e → AlternativeExit f g h m l e b1 b2 b3 b4 b5 o b6
alternative_exit f g h m l true b2 b3 b4 b5 o b6 k e is = let at : e ≡ f = cc in no_alternative at (λ p q r. false≢true (sym p))
alternative_exit f g h m l false true b3 b4 b5 o b6 k e is = let at : e ≡ f = cc in no_alternative at (λ p q r. false≢true (sym q))
alternative_exit f g h m l false false true b4 b5 o b6 k e is = let at : e ≡ f = cc in no_alternative at (λ p q r. false≢true (sym r))
alternative_exit f g h m l false false false true b5 o b6 k e is = has_repeat refl refl refl refl cc
alternative_exit f g h m l false false false false true o b6 k e is = lacks_one refl refl refl refl refl cc
alternative_exit f g h m l false false false false false None b6 k e is = no_number refl refl refl refl refl refl cc
alternative_exit f g h m l false false false false false (Some ps) true k e is = no_room refl refl refl refl refl ps refl refl cc
alternative_exit f g h m l false false false false false (Some ps) false k e is = absurd cc

alternative_form : (version : Version) (t : DecisionTable) (line : LineWords) → has_control line ≡ false → IsNamed (codes "alternative") line → ltb (length line) 2 ≡ false → ltb (length t.criteria + 2) (length line) ≡ false → not (is_id (word_at line 1)) ≡ false → HasForm version t line
alternative_form version t line visible name some few valid = record {
  visible = visible;
  known = inr (inr (record {
    id = word_at line 1;
    words = drop 2 line;
    is = two_and_more line some ∙ ap (λ (w : List ℕ). w ∷ word_at line 1 ∷ drop 2 line) name;
    valid = not-false (is_id (word_at line 1)) valid;
    not_more = omega (arith, ltb-false (length t.criteria + 2) (length line) few, length-drop 2 line);
  }));
}

alternative_fresh : (version : Version) (t : DecisionTable) (line : LineWords) → IsNamed (codes "alternative") line → has_id (alternative_ids t) (word_at line 1) ≡ false → FailsLine version t line RepeatedId → ⊥
alternative_fresh version t line name fresh (inl fails) = apart (codes "alternative") (codes "criterion") line refl name fails.0
alternative_fresh version t line name fresh (inr fails) = is_absent (alternative_ids t) (word_at line 1) fresh fails.1

alternative_complete : (version : Version) (t : DecisionTable) (line : LineWords) → ltb (length line) (length t.criteria + 2) ≡ false → FailsLine version t line MissingPerformance → ⊥
alternative_complete version t line enough fails = omega (arith, ltb-false (length line) (length t.criteria + 2) enough, fails.1)

alternative_written : (version : Version) (t : DecisionTable) (line : LineWords) (ps : List Amount) → IsNamed (codes "alternative") line → performances_of version (drop 2 line) ≡ Some ps → FailsLine version t line BadNumber → ⊥
alternative_written version t line ps name numbers (inl fails) = apart (codes "alternative") (codes "classes") line refl name fails.0
alternative_written version t line ps name numbers (inr fails) = fails.1 (ps, are_written version (drop 2 line) ps numbers)

no_performances : (version : Version) (words : LineWords) → performances_of version words ≡ None → ArePerformances version words → ⊥
no_performances version words none h = let some = written_are version words h.0 h.1 in absurd cc

alternative_first : (version : Version) (n : ℕ) (t : DecisionTable) (line : LineWords) (e : TableFault) → has_control line ≡ false → IsNamed (codes "alternative") line → alternative_line version n t line ≡ Err e → FirstAt version n t line e
unfolding alternative_line
alternative_first version n t line e visible name is =
    let id : List ℕ = word_at line 1 in
    let due : ℕ = length t.criteria + 2 in
    elim (alternative_exit (at_line n BadLine) (at_line n RepeatedId) (at_line n MissingPerformance) (at_line n BadNumber) (at_line n (TooMany Alternatives)) (ltb (length line) 2) (ltb due (length line)) (not (is_id id)) (has_id (alternative_ids t) id) (ltb (length line) due) (performances_of version (drop 2 line)) (leb MOST_ALTERNATIVES (length t.alternatives)) (λ ps. add_alternative t id ps) e is) [
      | no_alternative at fails ↦ bad_at version n t line e at (λ form.
          let h = alternative_of version t line name form in
          let long : length line ≡ length (codes "alternative" ∷ h.id ∷ h.words) = ap length h.is in
          fails (le-ltb (length line) 2 (omega (arith, long))) (le-ltb due (length line) (omega (arith, long, h.not_more))) (ap (λ (l : LineWords). not (is_id (word_at l 1))) h.is ∙ not_from_true (is_id h.id) h.valid))
      | has_repeat some few valid member at ↦
          let form = alternative_form version t line visible name some few valid in
          first_at version n t line RepeatedId e at (record {
            fails = inr (name, is_there (alternative_ids t) id member);
            none_before = no_earlier version t line 1 (λ l. form) (λ l. absurd (omega (arith, l))) (λ l. absurd (omega (arith, l))) (λ l. absurd (omega (arith, l))) (λ l. absurd (omega (arith, l)));
          })
      | lacks_one some few valid fresh short at ↦
          let form = alternative_form version t line visible name some few valid in
          first_at version n t line MissingPerformance e at (record {
            fails = (name, ltb-true (length line) due short);
            none_before = no_earlier version t line 2 (λ l. form) (λ l. alternative_fresh version t line name fresh) (λ l. absurd (omega (arith, l))) (λ l. absurd (omega (arith, l))) (λ l. absurd (omega (arith, l)));
          })
      | no_number some few valid fresh enough none at ↦
          let form = alternative_form version t line visible name some few valid in
          first_at version n t line BadNumber e at (record {
            fails = inr (name, no_performances version (drop 2 line) none);
            none_before = no_earlier version t line 3 (λ l. form) (λ l. alternative_fresh version t line name fresh) (λ l. alternative_complete version t line enough) (λ l. absurd (omega (arith, l))) (λ l. absurd (omega (arith, l)));
          })
      | no_room some few valid fresh enough ps numbers full at ↦
          let form = alternative_form version t line visible name some few valid in
          first_at version n t line (TooMany Alternatives) e at (record {
            fails = (name, leb-true MOST_ALTERNATIVES (length t.alternatives) full);
            none_before = no_earlier version t line 4 (λ l. form) (λ l. alternative_fresh version t line name fresh) (λ l. alternative_complete version t line enough) (λ l. alternative_written version t line ps name numbers) (λ l. absurd (omega (arith, l)));
          })
    ]

-- ---- any line

not_named : (name : List ℕ) (line : LineWords) → bytes_eq (word_at line 0) name ≡ false → IsNamed name line → ⊥
not_named name line other is = false≢true (sym other ∙ (bytes_eq-Decides (word_at line 0) name).1 is)

known_first : (version : Version) (n : ℕ) (t : DecisionTable) (line : LineWords) (e : TableFault) (b1 b2 b3 : Bool) → has_control line ≡ false
    → bytes_eq (word_at line 0) (codes "criterion") ≡ b1 → bytes_eq (word_at line 0) (codes "classes") ≡ b2 → bytes_eq (word_at line 0) (codes "alternative") ≡ b3
    → cond b1 (criterion_line version n t line) (cond b2 (classes_line n t line) (cond b3 (alternative_line version n t line) (Err (at_line n BadLine)))) ≡ Err e → FirstAt version n t line e
known_first version n t line e true b2 b3 visible p q r is = criterion_first version n t line e visible (is_word (word_at line 0) (codes "criterion") p) is
known_first version n t line e false true b3 visible p q r is = classes_first version n t line e visible (is_word (word_at line 0) (codes "classes") q) is
known_first version n t line e false false true visible p q r is = alternative_first version n t line e visible (is_word (word_at line 0) (codes "alternative") r) is
known_first version n t line e false false false visible p q r is = let at : e ≡ at_line n BadLine = cc in bad_at version n t line e at (λ form. elim form.known [
  | inl h ↦ not_named (codes "criterion") line p (named_criterion version t line h)
  | inr (inl h) ↦ not_named (codes "classes") line q (named_classes t line h)
  | inr (inr h) ↦ not_named (codes "alternative") line r (named_alternative t line h)
])

-- a line that is refused is refused with its first fault
pub line_first : (version : Version) (t : DecisionTable) (line : ℕ × LineWords) (e : TableFault) → body_line version t line ≡ Err e → (e.line ≡ line.0) × IsFirstOfLine version t line.1 e.kind
unfolding body_line known_line
line_first version t (n, line) e is =
    elim (refused (at_line n BadLine) (has_control line) (known_line version n t line) e is) [
      | inl control ↦ bad_at version n t line e control.1 (λ form. true_not_false (has_control line) control.0 form.visible)
      | inr rest ↦ known_first version n t line e (bytes_eq (word_at line 0) (codes "criterion")) (bytes_eq (word_at line 0) (codes "classes")) (bytes_eq (word_at line 0) (codes "alternative")) rest.0 refl refl refl rest.1
    ]

-- ---- what is read fails no test

some_classes : (word : List ℕ) (m n : ℕ) → count_of word ≡ Some m → count_of word ≡ Some n → m ≡ n
some_classes word m n p q = some_is m n (sym p ∙ q)

adds_room : (version : Version) (t : DecisionTable) (line : LineWords) (t' : DecisionTable) → Adds version t line t' → (what : What) → FailsLine version t line (TooMany what) → ⊥
adds_room version t line t' (a_criterion adds) Criteria fails = omega (arith, adds.room, fails.1)
adds_room version t line t' (a_criterion adds) Classes fails = apart (codes "criterion") (codes "classes") line refl (ap (λ (l : LineWords). word_at l 0) adds.is) fails.0
adds_room version t line t' (a_criterion adds) Alternatives fails = apart (codes "criterion") (codes "alternative") line refl (ap (λ (l : LineWords). word_at l 0) adds.is) fails.0
adds_room version t line t' (a_criterion adds) _ fails = fails
adds_room version t line t' (the_classes sets) Criteria fails = apart (codes "classes") (codes "criterion") line refl (ap (λ (l : LineWords). word_at l 0) sets.is) fails.0
adds_room version t line t' (the_classes sets) Classes fails =
    let same : sets.count ≡ fails.1.0 = some_classes (word_at line 1) sets.count fails.1.0 (ap (λ (l : LineWords). count_of (word_at l 1)) sets.is ∙ sets.written) fails.1.1 in
    omega (arith, same, sets.few, fails.1.2)
adds_room version t line t' (the_classes sets) Alternatives fails = apart (codes "classes") (codes "alternative") line refl (ap (λ (l : LineWords). word_at l 0) sets.is) fails.0
adds_room version t line t' (the_classes sets) _ fails = fails
adds_room version t line t' (an_alternative adds) Criteria fails = apart (codes "alternative") (codes "criterion") line refl (ap (λ (l : LineWords). word_at l 0) adds.writes.is) fails.0
adds_room version t line t' (an_alternative adds) Classes fails = apart (codes "alternative") (codes "classes") line refl (ap (λ (l : LineWords). word_at l 0) adds.writes.is) fails.0
adds_room version t line t' (an_alternative adds) Alternatives fails = omega (arith, adds.room, fails.1)
adds_room version t line t' (an_alternative adds) _ fails = fails

adds_form : (version : Version) (t : DecisionTable) (line : LineWords) (t' : DecisionTable) → has_control line ≡ false → Adds version t line t' → HasForm version t line
adds_form version t line t' visible (a_criterion adds) = record { visible = visible; known = inl (record { criterion = adds.criterion; is = adds.is; linear = adds.linear; valid = adds.valid; early = is_early t adds.early }) }
adds_form version t line t' visible (the_classes sets) = record { visible = visible; known = inr (inl (record { word = sets.word; is = sets.is; early = is_early t sets.early })) }
adds_form version t line t' visible (an_alternative adds) = record {
  visible = visible;
  known = inr (inr (record {
    id = adds.alternative.id;
    words = adds.writes.numbers;
    is = adds.writes.is;
    valid = adds.valid;
    not_more = omega (arith, length-written version adds.writes.numbers adds.alternative.performances adds.writes.written, adds.width);
  }));
}

adds_fresh : (version : Version) (t : DecisionTable) (line : LineWords) (t' : DecisionTable) → Adds version t line t' → FailsLine version t line RepeatedId → ⊥
adds_fresh version t line t' (a_criterion adds) fails =
    criterion_fresh version t line (ap (λ (l : LineWords). word_at l 0) adds.is) (ap (λ (l : LineWords). has_id (criterion_ids t) (word_at l 1)) adds.is ∙ adds.fresh) fails
adds_fresh version t line t' (the_classes sets) fails = classes_fresh version t line (ap (λ (l : LineWords). word_at l 0) sets.is) fails
adds_fresh version t line t' (an_alternative adds) fails =
    alternative_fresh version t line (ap (λ (l : LineWords). word_at l 0) adds.writes.is) (ap (λ (l : LineWords). has_id (alternative_ids t) (word_at l 1)) adds.writes.is ∙ adds.fresh) fails

adds_complete : (version : Version) (t : DecisionTable) (line : LineWords) (t' : DecisionTable) → Adds version t line t' → FailsLine version t line MissingPerformance → ⊥
adds_complete version t line t' (a_criterion adds) fails = criterion_complete version t line (ap (λ (l : LineWords). word_at l 0) adds.is) fails
adds_complete version t line t' (the_classes sets) fails = classes_complete version t line (ap (λ (l : LineWords). word_at l 0) sets.is) fails
adds_complete version t line t' (an_alternative adds) fails =
    let long : length line ≡ length (codes "alternative" ∷ adds.alternative.id ∷ adds.writes.numbers) = ap length adds.writes.is in
    omega (arith, long, length-written version adds.writes.numbers adds.alternative.performances adds.writes.written, adds.width, fails.1)

adds_written : (version : Version) (t : DecisionTable) (line : LineWords) (t' : DecisionTable) → Adds version t line t' → FailsLine version t line BadNumber → ⊥
adds_written version t line t' (a_criterion adds) fails = criterion_written version t line (ap (λ (l : LineWords). word_at l 0) adds.is) fails
adds_written version t line t' (the_classes sets) fails =
    classes_written version t line sets.count (ap (λ (l : LineWords). word_at l 0) sets.is) (ap (λ (l : LineWords). count_of (word_at l 1)) sets.is ∙ sets.written) (ne_eqb sets.count 0 (λ (e : sets.count ≡ 0). omega (arith, sets.some))) fails
adds_written version t line t' (an_alternative adds) fails =
    alternative_written version t line adds.alternative.performances (ap (λ (l : LineWords). word_at l 0) adds.writes.is) (ap (λ (l : LineWords). performances_of version (drop 2 l)) adds.writes.is ∙ written_are version adds.writes.numbers adds.alternative.performances adds.writes.written) fails

none_fails : (version : Version) (n : ℕ) (t : DecisionTable) (line : LineWords) (t' : DecisionTable) → body_line version t (n, line) ≡ Ok t' → (kind : TableKind) → FailsLine version t line kind → ⊥
unfolding body_line
none_fails version n t line t' e kind fails =
    let visible = (after_refuse (at_line n BadLine) (has_control line) (known_line version n t line) t' e).0 in
    let adds = body_line_adds version n t line t' e in
    no_earlier version t line 5 (λ l. adds_form version t line t' visible adds) (λ l. adds_fresh version t line t' adds) (λ l. adds_complete version t line t' adds) (λ l. adds_written version t line t' adds) (λ l. adds_room version t line t' adds) kind (stage_small kind) fails

-- ---- there is one first fault

-- the fault that a stage finds in a line
kind_at : LineWords → ℕ → TableKind
kind_at line stage =
    cond (eqb stage 0) BadLine (cond (eqb stage 1) RepeatedId (cond (eqb stage 2) MissingPerformance (cond (eqb stage 3) BadNumber
    (cond (bytes_eq (word_at line 0) (codes "criterion")) (TooMany Criteria) (cond (bytes_eq (word_at line 0) (codes "classes")) (TooMany Classes) (TooMany Alternatives))))))

is_named : (name : List ℕ) (line : LineWords) → IsNamed name line → bytes_eq (word_at line 0) name ≡ true
is_named name line is = (bytes_eq-Decides (word_at line 0) name).1 is

named_other : (name other : List ℕ) (line : LineWords) → IsNamed name line → bytes_eq name other ≡ false → bytes_eq (word_at line 0) other ≡ false
named_other name other line is differ = ap (λ (w : List ℕ). bytes_eq w other) is ∙ differ

kind_again : (version : Version) (t : DecisionTable) (line : LineWords) (kind : TableKind) → FailsLine version t line kind → kind_at line (line_stage kind) ≡ kind
unfolding kind_at
kind_again version t line BadLine fails = refl
kind_again version t line RepeatedId fails = refl
kind_again version t line MissingPerformance fails = refl
kind_again version t line BadNumber fails = refl
kind_again version t line (TooMany Criteria) fails = rw (is_named (codes "criterion") line fails.0) refl
kind_again version t line (TooMany Classes) fails = rw (named_other (codes "classes") (codes "criterion") line fails.0 refl, is_named (codes "classes") line fails.0) refl
kind_again version t line (TooMany Alternatives) fails = rw (named_other (codes "alternative") (codes "criterion") line fails.0 refl, named_other (codes "alternative") (codes "classes") line fails.0 refl) refl
kind_again version t line _ fails = absurd fails

same_kind : (version : Version) (t : DecisionTable) (line : LineWords) (k l : TableKind) → IsFirstOfLine version t line k → IsFirstOfLine version t line l → k ≡ l
same_kind version t line k l p q = elim (cases_order (line_stage k) (line_stage l)) [
  | inl same ↦ sym (kind_again version t line k p.fails) ∙ ap (kind_at line) same ∙ kind_again version t line l q.fails
  | inr (inl less) ↦ absurd (q.none_before k less p.fails)
  | inr (inr less) ↦ absurd (p.none_before l less q.fails)
]

same_fault : (g e : TableFault) → g.line ≡ e.line → g.kind ≡ e.kind → g ≡ e
same_fault g e p q =
    let fault : TableKind → ℕ → TableFault = λ kind line. record { kind = kind; line = line } in
    ap (λ (k : TableKind). fault k g.line) q ∙ ap (λ (l : ℕ). fault e.kind l) p

first_of_result : (version : Version) (t : DecisionTable) (line : ℕ × LineWords) (e : TableFault) (r : Result DecisionTable TableFault) → body_line version t line ≡ r → e.line ≡ line.0 → IsFirstOfLine version t line.1 e.kind → r ≡ Err e
first_of_result version t (n, line) e (Ok t') is at first = absurd (none_fails version n t line t' is e.kind first.fails)
first_of_result version t (n, line) e (Err g) is at first =
    let found = line_first version t (n, line) g is in
    ap Err (same_fault g e (found.0 ∙ sym at) (same_kind version t line g.kind e.kind found.1 first))

-- and the first fault is the one that is given
pub first_line_fault : (version : Version) (t : DecisionTable) (line : ℕ × LineWords) (e : TableFault) → e.line ≡ line.0 → IsFirstOfLine version t line.1 e.kind → body_line version t line ≡ Err e
first_line_fault version t line e at first = first_of_result version t line e (body_line version t line) refl at first
