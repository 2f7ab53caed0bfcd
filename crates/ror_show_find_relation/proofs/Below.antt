use Rattle.std.proofs.Common.{◌≡◌, ◌≢◌, ℕ, zero, suc, ◌<◌, Bool, true, false, ◌||◌, refl, ap, arith}
use Rattle.std.specs.Prelude.{◌==◌}
use Rattle.std.proofs.lemmas.Bool.{eqb-true, eqb-false}
use Rattle.ror_show_find_relation.specs.Relations.{some_below}

-- one of the first n passes the test
pub some_there : (p : ℕ → Bool) (n k : ℕ) → k < n → p k ≡ true → some_below p n ≡ true
some_there p zero k below passes = absurd (omega arith)
some_there p (suc n) k below passes = by (p n) refl (some_there p n k)
  where
    other : p n ≡ false → (same : Bool) → (k == n) ≡ same → k < n
    other fails true e = let same : k ≡ n = eqb-true k n e in let there : p k ≡ p n = ap p same in absurd cc
    other fails false e = let apart : k ≢ n = eqb-false k n e in omega arith

    by : (b : Bool) → p n ≡ b → (k < n → p k ≡ true → some_below p n ≡ true) → (b || some_below p n) ≡ true
    by true is before = refl
    by false is before = before (other is (k == n) refl) passes

-- and where one does, it is there
pub some_found : (p : ℕ → Bool) (n : ℕ) → some_below p n ≡ true → (k : ℕ) × (k < n) × (p k ≡ true)
some_found p zero passes = absurd cc
some_found p (suc n) passes = by (p n) refl passes (some_found p n)
  where
    by : (b : Bool) → p n ≡ b → (b || some_below p n) ≡ true → (some_below p n ≡ true → (k : ℕ) × (k < n) × (p k ≡ true)) → (k : ℕ) × (k < suc n) × (p k ≡ true)
    by true is _ before = (n, omega arith, is)
    by false is more before = let found : (k : ℕ) × (k < n) × (p k ≡ true) = before more in (found.0, omega (arith, found.1), found.2)
