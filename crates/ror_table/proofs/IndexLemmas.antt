-- What a table keeps beside its contents, as it is made and as it is read.
use Rattle.std.proofs.Common.{Ok, true, ◌≡◌, ℕ, zero, suc, ◌+◌, ◌-◌, ◌*◌, ◌<◌, ◌≤◌, List, [], ◌∷◌, ◌++◌, take, length, get_or, Bool, false, cond, eqb, ltb, ◌||◌, All, filter, refl, sym, ap, subst, ◌∙◌, arith, inl, inr}
use Rattle.std.specs.Prelude.{slice_index, min, ◌≢◌}
use Rattle.std.specs.Global.{Vec}
use Rattle.std.proofs.lemmas.Bool.{cases_lt, eqb-false, ltb-false}
use Rattle.std.proofs.lemmas.List.{length_push, get_or_push, get_or_append_left, length-map, get_or_read}
use Rattle.std.proofs.lemmas.Map.Made.{distinct_count-le}
use Rattle.ror_text.specs.Reading.{refuse}
use Rattle.ror_table.specs.declared.amount.Amount.{Amount}
use Rattle.ror_table.specs.declared.direction.Direction.{Direction}
use Rattle.ror_table.specs.Amounts.{IsAmount, is_worse, is_same}
use Rattle.ror_table.specs.Table.{DecisionTable, IsTable, levels_count, direction_at, is_linear, performances_on, performance_of, performance_at, rank, steps, width, offset, columns, has_wide_scale}
use Rattle.ror_table.specs.Draft.{IsDraft}
use Rattle.ror_table.specs.Levels.{IsLevels}
use Rattle.ror_table.specs.Index.{AreLevels, AreOffsets}
use Rattle.ror_table.proofs.RankLemmas.{levels_count-IsLevels, levels_count-worse, offset-suc, width-le-steps, or_neither}

-- ---- the levels of the criteria before one

pub record AreLevelsBefore (t : DecisionTable) (n : ℕ) (levels : List (Vec Amount)) : Type 0 where
  pub number : length levels ≡ n
  pub each : (i : ℕ) (d : Vec Amount) → i < n → IsLevels (direction_at t i) (performances_on t i) (get_or levels i d).items

pub AreLevelsBefore-none : (t : DecisionTable) → AreLevelsBefore t 0 []
AreLevelsBefore-none t = record { number = refl; each = λ i d lt. absurd (omega arith) }

pub AreLevelsBefore-more : (t : DecisionTable) (n : ℕ) (levels more : List (Vec Amount)) (v : Vec Amount) → AreLevelsBefore t n levels → IsLevels (direction_at t n) (performances_on t n) v.items → more ≡ levels ++ v ∷ [] → AreLevelsBefore t (n + 1) more
AreLevelsBefore-more t n levels more v before here is = subst (AreLevelsBefore t (n + 1)) (sym is) (record {
  number = length_push levels v ∙ ap (λ m. m + 1) before.number;
  each = λ i d lt. elim (cases_lt i n) [
    | inl earlier ↦ rw (get_or_append_left levels (v ∷ []) d i (omega (arith, before.number))) (before.each i d earlier)
    | inr later ↦
        let same : n ≡ i = omega arith in
        let at : get_or (levels ++ v ∷ []) i d ≡ v = get_or_push levels v d i (before.number ∙ same) in
        rw at (subst (λ m. IsLevels (direction_at t m) (performances_on t m) v.items) same here)
  ];
})

pub AreLevels-all : (t : DecisionTable) (n : ℕ) (levels : List (Vec Amount)) → AreLevelsBefore t n levels → n ≡ length t.criteria → AreLevels t levels
AreLevels-all t n levels before all = record { number = before.number ∙ all; each = λ i d lt. before.each i d (omega arith) }

-- ---- how many levels there are

-- there are no more distinct performances than performances
pub levels_count-le : (performances : List Amount) → levels_count performances ≤ length performances
unfolding levels_count
levels_count-le performances = distinct_count-le is_same performances

pub length-levels : (t : DecisionTable) (levels : List (Vec Amount)) (i : ℕ) (d : Vec Amount) → AreLevels t levels → i < length t.criteria → length (get_or levels i d).items ≡ levels_count (performances_on t i)
length-levels t levels i d are within = levels_count-IsLevels (direction_at t i) (performances_on t i) (get_or levels i d).items (are.each i d within)

-- how many columns a criterion with these levels has
pub width_read : (t : DecisionTable) (levels : List (Vec Amount)) (i n w : ℕ) (v : Vec Amount) (linear : Bool) → AreLevels t levels → i < length t.criteria → v ≡ get_or levels i v → n ≡ length v.items → linear ≡ is_linear t i → w ≡ cond linear (min (n - 1) 1) (n - 1) → w ≡ width t i
width_read t levels i n w v linear are within read n-is linear-is is =
    let count : n ≡ levels_count (performances_on t i) = n-is ∙ ap (λ (x : Vec Amount). length x.items) read ∙ length-levels t levels i v are within in
    is ∙ ap (λ m. cond linear (min (m - 1) 1) (m - 1)) count ∙ ap (λ b. cond b (min (steps t i) 1) (steps t i)) linear-is

-- ---- the columns so far

pub record AreOffsetsBefore (t : DecisionTable) (n : ℕ) (offsets : List ℕ) (columns : ℕ) : Type 0 where
  pub number : length offsets ≡ n
  pub each : (i : ℕ) → i < n → slice_index offsets i ≡ offset t i
  pub total : columns ≡ offset t n

pub AreOffsetsBefore-none : (t : DecisionTable) → AreOffsetsBefore t 0 [] 0
AreOffsetsBefore-none t = record { number = refl; each = λ i lt. absurd (omega arith); total = refl }

pub AreOffsetsBefore-more : (t : DecisionTable) (n : ℕ) (offsets more : List ℕ) (columns w : ℕ) → AreOffsetsBefore t n offsets columns → w ≡ width t n → more ≡ offsets ++ columns ∷ [] → AreOffsetsBefore t (n + 1) more (columns + w)
AreOffsetsBefore-more t n offsets more columns w before wide is = subst (λ o. AreOffsetsBefore t (n + 1) o (columns + w)) (sym is) (record {
  number = length_push offsets columns ∙ ap (λ m. m + 1) before.number;
  each = λ i lt. elim (cases_lt i n) [
    | inl earlier ↦ get_or_append_left offsets (columns ∷ []) 0 i (omega (arith, before.number)) ∙ before.each i earlier
    | inr later ↦
        let same : n ≡ i = omega arith in
        get_or_push offsets columns 0 i (before.number ∙ same) ∙ before.total ∙ ap (offset t) same
  ];
  total = omega (arith, before.total, wide, offset-suc t n);
})

pub AreOffsets-all : (t : DecisionTable) (n : ℕ) (offsets : List ℕ) (columns : ℕ) → AreOffsetsBefore t n offsets columns → n ≡ length t.criteria → AreOffsets t offsets columns
AreOffsets-all t n offsets columns before all = record { number = before.number ∙ all; each = λ i lt. before.each i (omega arith); total = before.total ∙ ap (offset t) all }

-- a criterion has no more columns than there are alternatives
width_limit : (t : DecisionTable) (i : ℕ) → IsDraft t → width t i ≤ 200
width_limit t i draft = omega (arith, width-le-steps t i, levels_count-le (performances_on t i), length-map t.alternatives (λ a. performance_of a i), draft.alternatives_limit)

pub offset_limit : (t : DecisionTable) (n : ℕ) → IsDraft t → offset t n ≤ n * 200
offset_limit t zero draft = omega arith
offset_limit t (suc n) draft =
    let next : n + 1 ≡ suc n = omega arith in
    subst (λ m. offset t m ≤ suc n * 200) next (omega (arith, offset-suc t n, offset_limit t n draft, width_limit t n draft))

pub columns_are_few : (t : DecisionTable) (n columns w : ℕ) → IsDraft t → n < length t.criteria → columns ≡ offset t n → w ≡ width t n → columns + w ≤ 12800
columns_are_few t n columns w draft within is wide = omega (arith, offset_limit t n draft, width_limit t n draft, draft.criteria_limit, is, wide)

-- ---- a whole table

pub IsTable-from_draft : (t : DecisionTable) → IsDraft t → 0 < length t.criteria → 0 < length t.alternatives → columns t ≤ 2000 → has_wide_scale t ≡ false → IsTable t
IsTable-from_draft t draft some other narrow near = record {
  some_criterion = some;
  some_alternative = other;
  criteria_limit = draft.criteria_limit;
  alternatives_limit = draft.alternatives_limit;
  classes_limit = draft.classes_limit;
  columns_limit = narrow;
  scale_limit = near;
  criterion_ids_valid = draft.criterion_ids_valid;
  alternative_ids_valid = draft.alternative_ids_valid;
  criterion_ids_distinct = draft.criterion_ids_distinct;
  alternative_ids_distinct = draft.alternative_ids_distinct;
  evaluated = draft.evaluated;
}

-- what the tests of a draft leave
pub IsTable-from_tests : (t : DecisionTable) (empty wide : Bool) (n : ℕ) → IsDraft t → empty ≡ (eqb (length t.criteria) 0 || eqb (length t.alternatives) 0) → empty ≡ false → wide ≡ ltb 2000 n → wide ≡ false → n ≡ columns t → has_wide_scale t ≡ false → IsTable t
IsTable-from_tests t empty wide n draft empty-is some wide-is narrow total near =
    let both = or_neither (eqb (length t.criteria) 0) (eqb (length t.alternatives) 0) (sym empty-is ∙ some) in
    let criteria : length t.criteria ≢ 0 = eqb-false (length t.criteria) 0 both.0 in
    let alternatives : length t.alternatives ≢ 0 = eqb-false (length t.alternatives) 0 both.1 in
    let few : n ≤ 2000 = ltb-false 2000 n (sym wide-is ∙ narrow) in
    IsTable-from_draft t draft (omega arith) (omega arith) (omega arith) near

-- ---- reading

pub steps_read : (t : DecisionTable) (levels : List (Vec Amount)) (i : ℕ) (v : Vec Amount) → AreLevels t levels → i < length t.criteria → v ≡ get_or levels i v → length v.items ≡ levels_count (performances_on t i)
steps_read t levels i v are within read = ap (λ (w : Vec Amount). length w.items) read ∙ length-levels t levels i v are within

pub rank_read : (t : DecisionTable) (levels : List (Vec Amount)) (a i n : ℕ) (v : Vec Amount) (direction : Direction) (p : Amount) → AreLevels t levels → i < length t.criteria → v ≡ get_or levels i v → direction ≡ direction_at t i → p ≡ performance_at t a i
    → n ≡ length (filter (λ level. is_worse direction level p) v.items) → n ≡ rank t a i
rank_read t levels a i n v direction p are within read d-is p-is n-is =
    let up : IsLevels (direction_at t i) (performances_on t i) v.items = subst (λ (w : Vec Amount). IsLevels (direction_at t i) (performances_on t i) w.items) (sym read) (are.each i v within) in
    n-is ∙ ap (λ d. length (filter (λ level. is_worse d level p) v.items)) d-is ∙ ap (λ x. length (filter (λ level. is_worse (direction_at t i) level x) v.items)) p-is
    ∙ levels_count-worse (direction_at t i) (performances_on t i) v.items (performance_at t a i) up

pub offset_read : (t : DecisionTable) (offsets : List ℕ) (all i x : ℕ) → AreOffsets t offsets all → i < length t.criteria → x ≡ get_or offsets i x → x ≡ offset t i
offset_read t offsets all i x are within read = get_or_read offsets i x (omega (arith, are.number)) read 0 ∙ are.each i within

-- the levels that are read rise and are amounts
pub levels_read : (t : DecisionTable) (levels : List (Vec Amount)) (i : ℕ) (v : Vec Amount) (direction : Direction) → AreLevels t levels → i < length t.criteria → v ≡ get_or levels i v → direction ≡ direction_at t i → IsLevels direction (performances_on t i) v.items
levels_read t levels i v direction are within read is =
    let here : IsLevels (direction_at t i) (performances_on t i) v.items = subst (λ (w : Vec Amount). IsLevels (direction_at t i) (performances_on t i) w.items) (sym read) (are.each i v within) in
    subst (λ d. IsLevels d (performances_on t i) v.items) (sym is) here

-- what stands for no fault
pub refused_not : {F : Type 0} (fault : F) (b : Bool) → refuse fault b ≡ Ok tt → b ≡ false
refused_not fault true h = absurd cc
refused_not fault false h = refl
