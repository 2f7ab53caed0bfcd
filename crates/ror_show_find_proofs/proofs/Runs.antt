-- Shares of whole numbers, and runs of levels step by step.
use Rattle.std.proofs.Common.{◌≡◌, ℕ, zero, suc, ◌+◌, ◌-◌, ◌<◌, ◌≤◌, ◌^◌, true, false, refl, ap, ◌∙◌, arith, ℤ, pos, ◌≤ℤ◌, ◌<ℤ◌}
use Rattle.std.specs.Prelude.{unsigned_abs}
use Rattle.std.proofs.lemmas.Int.{ints}
use Rattle.ror_table.specs.Table.{DecisionTable}
use Rattle.ror_value.specs.Value.{Normalised}
use Rattle.ror_show_find_proofs.specs.declared.share.Share.{Share}
use Rattle.ror_show_find_proofs.specs.Shares.{IsShare}
use Rattle.ror_show_find_proofs.specs.Levels.{is_same_at, run_end}

within_whole : (m t : ℤ) → pos 0 ≤ℤ m → m ≤ℤ t → unsigned_abs m ≤ unsigned_abs t
within_whole m t above below = grind (arith, ints)

above_zero : (t : ℤ) → pos 0 <ℤ t → 0 < unsigned_abs t
above_zero t above = grind (arith, ints)

pub share_of : (m t : ℤ) (s : Share) → s.part ≡ unsigned_abs m → s.whole ≡ unsigned_abs t → pos 0 ≤ℤ m → m ≤ℤ t → pos 0 <ℤ t → unsigned_abs t < 2 ^ 127 → IsShare s
share_of m t s part whole above below positive narrow =
    let within = within_whole m t above below in
    let some = above_zero t positive in
    record {
      within = omega (arith, part, whole, within);
      positive = omega (arith, whole, some);
      narrow = omega (arith, whole, narrow);
    }

-- a run stops where the next level is worth more
pub run_stops : (t : DecisionTable) (f : Normalised) (i n r : ℕ) → is_same_at t f i r (r + 1) ≡ false → run_end t f i n r ≡ r
run_stops t f i zero r apart = refl
run_stops t f i (suc n) r apart = rw apart refl

goes_on : (t : DecisionTable) (f : Normalised) (i n r : ℕ) → is_same_at t f i r (r + 1) ≡ true → run_end t f i (suc n) r ≡ run_end t f i n (r + 1)
goes_on t f i n r same = rw same refl

-- and goes on where it is worth the same
pub run_goes_on : (t : DecisionTable) (f : Normalised) (i k r : ℕ) → r < k → is_same_at t f i r (r + 1) ≡ true → run_end t f i (k - r) r ≡ run_end t f i (k - (r + 1)) (r + 1)
run_goes_on t f i k r below same =
    let left : k - r ≡ suc (k - (r + 1)) = omega arith in
    ap (λ n. run_end t f i n r) left ∙ goes_on t f i (k - (r + 1)) r same
