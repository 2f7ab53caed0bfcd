-- Each row is written.
use Rattle.std.proofs.Common.{◌≡◌, ℕ, zero, suc, nat_lt, ◌<◌, ◌≤◌, List, length, Option, Some, subst, sym, ap, ◌∙◌, arith, inl, inr}
use Rattle.std.specs.Prelude.{slice_get, if◌then◌else◌}
use Rattle.std.proofs.lemmas.Bool.{cases_Bool, ltb-true, ltb-false}
use Rattle.std.specs.Option.{option_map_or}
use Rattle.ror_show_ground.proofs.Lists.{at_place}
use Rattle.ror_show_text_whatif.specs.declared.rows.Row.{Row}
use Rattle.ror_show_text_whatif.specs.Laws.{EachHasARow}
use Rattle.ror_show_text_whatif.specs.Rows.{first_at, most_below}
use Rattle.ror_show_text_whatif.specs.Told.{first_of}

-- the greater of two, as it is chosen
greater : (a b : ℕ) → (a ≤ (if nat_lt a b then b else a)) × (b ≤ (if nat_lt a b then b else a))
greater a b = elim (cases_Bool (nat_lt a b)) [
  | inl is ↦ rw is (let less = ltb-true a b is in (omega (arith, less), omega arith))
  | inr is ↦ rw is (let least = ltb-false a b is in (omega arith, omega (arith, least)))
]

below : (rows : List Row) (n k : ℕ) → k < n → first_at rows k ≤ most_below rows n
below rows zero k within = absurd (omega (arith, within))
below rows (suc n) k within =
    let both : (most_below rows n ≤ most_below rows (suc n)) × (first_at rows n ≤ most_below rows (suc n)) = greater (most_below rows n) (first_at rows n) in
    elim (cases_Bool (nat_lt k n)) [
      | inl is ↦
          let before = below rows n k (ltb-true k n is) in
          let most = both.0 in
          omega (arith, before, most)
      | inr is ↦
          let least = ltb-false k n is in
          let last : k ≡ n = omega (arith, least, within) in
          subst (λ (i : ℕ). first_at rows i ≤ most_below rows (suc n)) (sym last) both.1
    ]

pub each_has_a_row : EachHasARow
each_has_a_row rows row there =
    let here : slice_get rows there.0 ≡ Some row = at_place rows there.0 row there.1 ∙ ap (λ (x : Row). Some x) there.2 in
    let first : first_at rows there.0 ≡ first_of row.told = ap (λ (x : Option Row). option_map_or (λ r. first_of r.told) x 0) here in
    subst (λ (n : ℕ). n ≤ most_below rows (length rows)) first (below rows (length rows) there.0 there.1)
