-- What dominates is worth at least as much.
use Rattle.std.proofs.Common.{◌≡◌, ℕ, zero, suc, ◌+◌, ◌<◌, ◌≤◌, Bool, true, false, ◌&&◌, List, length, map, ℤ, refl, sym, arith, subst}
use Rattle.std.proofs.lemmas.Int.{ints}
use Rattle.std.specs.Prelude.{nat_le, ◌≤ℤ◌, ◌==◌}
use Rattle.std.specs.List.{range_with_len}
use Rattle.std.proofs.lemmas.Bool.{leb-true, eqb-true, eqb-false}
use Rattle.ror_integers.specs.Vectors.{total}
use Rattle.ror_table.specs.Table.{DecisionTable, IsTable, rank}
use Rattle.ror_value.specs.Value.{IsValueFunction, marginal, value}
use Rattle.ror_value.proofs.Values.{marginal_monotone}
use Rattle.ror_show_find_relation.specs.Dominance.{is_nowhere_worse, dominates}

both : (p q : Bool) → (p && q) ≡ true → (p ≡ true) × (q ≡ true)
both true q is = (refl, is)
both false q is = absurd cc

-- on each of the first criteria
pub nowhere : (t : DecisionTable) (a b n i : ℕ) → is_nowhere_worse t a b n ≡ true → i < n → rank t b i ≤ rank t a i
nowhere t a b zero i is below = absurd (omega arith)
nowhere t a b (suc n) i is below = by (i == n) refl (nowhere t a b n i)
  where
    parts : (nat_le (rank t b n) (rank t a n) ≡ true) × (is_nowhere_worse t a b n ≡ true)
    parts = both (nat_le (rank t b n) (rank t a n)) (is_nowhere_worse t a b n) is

    by : (same : Bool) → (i == n) ≡ same → (is_nowhere_worse t a b n ≡ true → i < n → rank t b i ≤ rank t a i) → rank t b i ≤ rank t a i
    by true e before = let same : i ≡ n = eqb-true i n e in subst (λ (k : ℕ). rank t b k ≤ rank t a k) (sym same) (leb-true (rank t b n) (rank t a n) parts.0)
    by false e before = let apart = eqb-false i n e in before parts.1 (omega arith)

-- where it is worse on one, it is somewhere worse
pub somewhere : (t : DecisionTable) (a b n i : ℕ) → i < n → rank t a i < rank t b i → is_nowhere_worse t a b n ≡ false
somewhere t a b n i below worse = by (is_nowhere_worse t a b n) refl
  where
    by : (r : Bool) → is_nowhere_worse t a b n ≡ r → is_nowhere_worse t a b n ≡ false
    by true is = let no_worse = nowhere t a b n i is below in absurd (omega arith)
    by false is = is

total-le : (f g : ℕ → ℤ) (first n : ℕ) → ((i : ℕ) → i < first + n → f i ≤ℤ g i) → total (map f (range_with_len first n)) ≤ℤ total (map g (range_with_len first n))
total-le f g first zero each = omega (arith, ints)
total-le f g first (suc n) each =
    let here : f first ≤ℤ g first = each first (omega arith) in
    let rest : total (map f (range_with_len (first + 1) n)) ≤ℤ total (map g (range_with_len (first + 1) n)) = total-le f g (first + 1) n (λ i below. each i (omega arith)) in
    omega (arith, ints)

pub dominance-necessary : (t : DecisionTable) (w : List ℤ) (a b : ℕ) → dominates t a b ≡ true → IsTable t → IsValueFunction t w → value t w b ≤ℤ value t w a
dominance-necessary t w a b is table function =
    total-le (λ i. marginal t w i (rank t b i)) (λ i. marginal t w i (rank t a i)) 0 (length t.criteria)
    (λ i below. marginal_monotone t w table function.none_negative i (rank t b i) (rank t a i) (nowhere t a b (length t.criteria) i is (omega arith)))
