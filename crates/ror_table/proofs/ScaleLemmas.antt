-- Common denominators are the least ones, and distances are those of the levels.
use Rattle.std.proofs.Common.{◌≡◌, ℕ, zero, suc, ◌+◌, ◌*◌, ◌<◌, ◌≤◌, ◌⊎◌, ◌↔◌, ◌^◌, ◌||◌, Bool, true, false, nat_le, List, [], ◌∷◌, length, fold, All, ℤ, pos, ◌-ℤ◌, ◌*ℤ◌, unsigned_abs, refl, sym, ap, subst, ◌∙◌, inl, inr, arith}
use Prim.Native.Nat.{◌∣◌}
use Rattle.std.proofs.lemmas.Bool.{cases_lt, and_parts, leb-true}
use Rattle.std.proofs.Math.Nat.{one-dvd}
use Rattle.std.proofs.lemmas.Int.{ints}
use Rattle.ror_integers.proofs.Gcd.{multiple_positive, least_of_multiples}
use Rattle.ror_integers.proofs.Ring.{product_comm, zero-product, product-zero}
use Rattle.ror_table.specs.declared.amount.Amount.{Amount}
use Rattle.ror_table.specs.Amounts.{IsAmount}
use Rattle.ror_table.specs.Table.{DecisionTable, IsEvaluated, common_denominator, performances_on, steps, level, distance, has_weights, has_wide_weights}
use Rattle.ror_table.specs.Laws.{apart, IsLeastCommon, IsScaled}
use Rattle.ror_table.proofs.RankLemmas.{performances_amounts, or_cases}
use Rattle.ror_table.proofs.WeightLemmas.{with_denominator, denominator_positive, denominator-dvd-fold, multiple_apart, distance-first, level_over, wide_denominator, wide_distance}

-- what all denominators divide the common one divides
fold_least : (d n : ℕ) (ps : List Amount) → 0 < d → d ∣ n → All IsAmount ps → All (λ p. unsigned_abs p.den ∣ n) ps → fold with_denominator d ps ∣ n
fold_least d n [] some divides all each = divides
fold_least d n (p ∷ ps) some divides all each =
    let den = denominator_positive p (all 0 p (omega arith)) in
    fold_least (with_denominator d p) n ps (multiple_positive d (unsigned_abs p.den) some den) (least_of_multiples d (unsigned_abs p.den) n some den divides (each 0 p (omega arith)))
    (λ k e l. all (suc k) e (omega arith)) (λ k e l. each (suc k) e (omega arith))

one_divides : (n : ℕ) → 1 ∣ n
one_divides n = one-dvd n

pub common_is_least : (ps : List Amount) → All IsAmount ps → IsLeastCommon ps (common_denominator ps)
common_is_least ps all = record {
  multiple = λ k e within. denominator-dvd-fold 1 ps k e within;
  least = λ n each. fold_least 1 n ps (omega arith) (one_divides n) all each;
}

no_distance : (n : ℕ) (d e x y : ℤ) (m : ℕ) → m ≡ 0 → pos m *ℤ (d *ℤ e) ≡ pos n *ℤ pos (unsigned_abs (x -ℤ x))
no_distance n d e x y m none =
    let here : unsigned_abs (x -ℤ x) ≡ 0 = omega (arith, ints) in
    let left : pos m *ℤ (d *ℤ e) ≡ pos 0 = ap (λ (k : ℕ). pos k *ℤ (d *ℤ e)) none ∙ zero-product (d *ℤ e) in
    let right : pos n *ℤ pos (unsigned_abs (x -ℤ x)) ≡ pos 0 = ap (λ (k : ℕ). pos n *ℤ pos k) here ∙ product-zero (pos n) in
    left ∙ sym right

exchanged : (a b c : ℤ) → b *ℤ a ≡ c → a *ℤ b ≡ c
exchanged a b c h = product_comm a b ∙ h

distances_are_scaled : (t : DecisionTable) (i r : ℕ) → All IsAmount (performances_on t i) → r ≤ steps t i
    → pos (distance t i r) *ℤ ((level t i r).den *ℤ (level t i 0).den) ≡ pos (common_denominator (performances_on t i)) *ℤ pos (apart (level t i r) (level t i 0))
distances_are_scaled t i r all within =
    elim (cases_lt 0 (steps t i)) [
      | inl some ↦
          let here = level_over t i r all some within in
          let worst = level_over t i 0 all some (omega arith) in
          exchanged (pos (distance t i r)) ((level t i r).den *ℤ (level t i 0).den) _ (multiple_apart (common_denominator (performances_on t i)) (level t i r) (level t i 0) here.0 worst.0 here.1 worst.1)
      | inr none ↦
          let first : r ≡ 0 = omega arith in
          rw first (no_distance (common_denominator (performances_on t i)) (level t i 0).den (level t i 0).den ((level t i 0).num *ℤ (level t i 0).den) (pos 0) (distance t i 0) (distance-first t i))
    ]

wide_is : (t : DecisionTable) (i : ℕ) → (has_wide_weights t i ≡ true) ↔ ((has_weights t i ≡ true)
    × ((10 ^ 18 ≤ common_denominator (performances_on t i)) ⊎ (10 ^ 18 ≤ distance t i (steps t i))))
wide_is t i = (to, from)
  where
    to : has_wide_weights t i ≡ true → (has_weights t i ≡ true) × ((10 ^ 18 ≤ common_denominator (performances_on t i)) ⊎ (10 ^ 18 ≤ distance t i (steps t i)))
    to wide =
        let parts = and_parts (has_weights t i) _ wide in (
          parts.0,
          elim (or_cases (nat_le (10 ^ 18) (common_denominator (performances_on t i))) (nat_le (10 ^ 18) (distance t i (steps t i))) parts.1) [
            | inl first ↦ inl (leb-true (10 ^ 18) (common_denominator (performances_on t i)) first)
            | inr second ↦ inr (leb-true (10 ^ 18) (distance t i (steps t i)) second)
          ],
        )

    from : (has_weights t i ≡ true) × ((10 ^ 18 ≤ common_denominator (performances_on t i)) ⊎ (10 ^ 18 ≤ distance t i (steps t i))) → has_wide_weights t i ≡ true
    from h = elim h.1 [
      | inl first ↦ wide_denominator t i h.0 first
      | inr second ↦ wide_distance t i h.0 second
    ]

pub scales_are_distances : (t : DecisionTable) (i : ℕ) → 0 < length t.alternatives → All (IsEvaluated (length t.criteria)) t.alternatives → i < length t.criteria → IsScaled t i
scales_are_distances t i some evaluated within =
    let all = performances_amounts t i evaluated within in
    record {
      common = common_is_least (performances_on t i) all;
      distances = λ r le. distances_are_scaled t i r all le;
      wide = wide_is t i;
    }
