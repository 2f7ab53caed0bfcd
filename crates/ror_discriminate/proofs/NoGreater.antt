-- That no solution of a system has a greater least margin than that of an accepted optimum.
use Rattle.std.proofs.Common.{◌≡◌, ℕ, ◌<◌, ◌≤◌, List, [], ◌∷◌, ◌++◌, length, ℤ, pos, ◌*ℤ◌, ◌≤ℤ◌, refl, ap, sym, ◌∙◌, arith, inl, inr, ◌⊎◌}
use Rattle.std.specs.List.{AllByRecursion}
use Rattle.std.proofs.lemmas.Bool.{cases_lt}
use Rattle.ror_integers.specs.Vectors.{entry, dot, dots, total, column, scaled_row, weighted, NoneNegative}
use Rattle.ror_integers.proofs.Ring.{sums, product-zero}
use Rattle.ror_integers.proofs.Solver.{ring3, ◌⊗◌}
use Rattle.ror_integers.proofs.Motzkin.{NoneNegative-dots}
use Rattle.ror_integers.proofs.Order.{mul_le, cancel_le}
use Rattle.ror_integers.proofs.Dots.{dot-append, dot-scaled_row_left}
use Rattle.ror_integers.proofs.Rows.{dot-weighted, dots-append, entry-weighted, entry-scaled_row, entry_past, length-dots, dot-column_past}
use Rattle.ror_integers.proofs.Signs.{NoneNegative-append_left, NoneNegative-append_right, dot_nonnegative, dot_le, total_positive}
use Rattle.ror_system.specs.System.{LinearSystem, Solves}
use Rattle.ror_system.specs.Acceptance.{rows_of}
use Rattle.ror_pivot.specs.Optimality.{AreTops, IsBest, least_value, total_by}
use Rattle.ror_discriminate.proofs.Leasts.{weighed_at_least}

pub NoneNegative-tops : (tops : List ℤ) → AllByRecursion (λ top. pos 1 ≤ℤ top) tops → NoneNegative tops
NoneNegative-tops [] all = tt
NoneNegative-tops (top ∷ tops) all = let l = all.0 in (omega (arith, sums), NoneNegative-tops tops all.1)

-- the weighed rows of a solution come to its least value at least, times the sum of the strict multipliers
rows_at_least : (s : LinearSystem) (weak strict v : List ℤ) → length weak ≡ length s.weak → length strict ≡ length s.strict → NoneNegative (weak ++ strict) → entry strict 0 ≡ pos 0 → Solves s v
    → (least_value s v *ℤ total strict) ≤ℤ dot (weak ++ strict) (dots (rows_of s) v)
rows_at_least s weak strict v as_weak as_strict none ones solves =
    let p = dot_nonnegative weak (dots s.weak v) (NoneNegative-append_left weak strict none) (NoneNegative-dots s.weak v solves.rows.weak_hold) in
    let q = weighed_at_least s.strict strict v as_strict (NoneNegative-append_right weak strict none) ones in
    let e = ap (dot (weak ++ strict)) (dots-append s.weak s.strict v) ∙ dot-append weak strict (dots s.weak v) (dots s.strict v) (as_weak ∙ sym (length-dots s.weak v)) in
    omega (arith, sums)

-- by columns they come to no more than the margin allows
module _ (s : LinearSystem) (tops steps weak strict : List ℤ) (widths : AllByRecursion (λ (row : List ℤ). length row ≡ s.columns) (rows_of s)) (are : AreTops s.columns tops) (best : IsBest s tops steps weak strict) where
  abbrev sum_at : ℕ → ℤ
  sum_at j = dot (weak ++ strict) (column (rows_of s) j)

  abbrev scale : ℤ
  scale = least_value s steps *ℤ total strict

  column_at : (j : ℕ) → (j < s.columns) ⊎ (s.columns ≤ j) → (total_by tops steps *ℤ sum_at j) ≤ℤ (scale *ℤ entry tops j)
  column_at j (inl l) =
      let h = best.columns_best j l in
      let e : least_value s steps *ℤ (entry tops j *ℤ total strict) ≡ scale *ℤ entry tops j = ring3 (λ m t z. m ⊗ (t ⊗ z)) (λ m t z. (m ⊗ z) ⊗ t) refl (least_value s steps) (entry tops j) (total strict) in
      omega (arith, sums)
  column_at j (inr l) =
      let nothing = dot-column_past (weak ++ strict) s.columns (rows_of s) j widths l in
      let past = entry_past tops j (let long = are.one_for_each_column in omega arith) in
      let e = ap (λ (x : ℤ). total_by tops steps *ℤ x) nothing ∙ product-zero (total_by tops steps) in
      let f = ap (λ (x : ℤ). scale *ℤ x) past ∙ product-zero scale in
      omega (arith, sums)

  entries_le : (j : ℕ) → entry (scaled_row (total_by tops steps) (weighted (weak ++ strict) (rows_of s))) j ≤ℤ entry (scaled_row scale tops) j
  entries_le j =
      let h = column_at j (cases_lt j s.columns) in
      let e : entry (scaled_row (total_by tops steps) (weighted (weak ++ strict) (rows_of s))) j ≡ total_by tops steps *ℤ sum_at j = entry-scaled_row (total_by tops steps) (weighted (weak ++ strict) (rows_of s)) j ∙ ap (λ (x : ℤ). total_by tops steps *ℤ x) (entry-weighted (weak ++ strict) (rows_of s) j) in
      let f = entry-scaled_row scale tops j in
      omega (arith, sums)

  rows_at_most : (v : List ℤ) → NoneNegative v → (total_by tops steps *ℤ dot (weak ++ strict) (dots (rows_of s) v)) ≤ℤ (scale *ℤ total_by tops v)
  rows_at_most v none =
      let h = dot_le (scaled_row (total_by tops steps) (weighted (weak ++ strict) (rows_of s))) (scaled_row scale tops) v entries_le none in
      let e = dot-scaled_row_left (total_by tops steps) (weighted (weak ++ strict) (rows_of s)) v ∙ ap (λ (x : ℤ). total_by tops steps *ℤ x) (dot-weighted (weak ++ strict) (rows_of s) v) in
      let f = dot-scaled_row_left scale tops v in
      omega (arith, sums)

  pub no_greater : (v : List ℤ) → Solves s v → (least_value s v *ℤ total_by tops steps) ≤ℤ (least_value s steps *ℤ total_by tops v)
  no_greater v solves =
      let total_low = dot_nonnegative tops steps (NoneNegative-tops tops are.at_least_one) best.solution.solves.rows.none_negative in
      let low = mul_le (total_by tops steps) (least_value s v *ℤ total strict) (dot (weak ++ strict) (dots (rows_of s) v)) total_low
      (rows_at_least s weak strict v best.one_for_each_weak best.one_for_each_strict best.none_negative best.ones_row solves) in
      let high = rows_at_most v solves.rows.none_negative in
      let some = total_positive strict (NoneNegative-append_right weak strict best.none_negative) best.some_strict in
      let e : total_by tops steps *ℤ (least_value s v *ℤ total strict) ≡ total strict *ℤ (least_value s v *ℤ total_by tops steps) = ring3 (λ t m z. t ⊗ (m ⊗ z)) (λ t m z. z ⊗ (m ⊗ t)) refl (total_by tops steps) (least_value s v) (total strict) in
      let f : scale *ℤ total_by tops v ≡ total strict *ℤ (least_value s steps *ℤ total_by tops v) = ring3 (λ m z t. (m ⊗ z) ⊗ t) (λ m z t. z ⊗ (m ⊗ t)) refl (least_value s steps) (total strict) (total_by tops v) in
      cancel_le (total strict) (least_value s v *ℤ total_by tops steps) (least_value s steps *ℤ total_by tops v) some (omega (arith, sums))
