-- Fractions.
use Rattle.std.proofs.Common.{◌≡◌, ◌≢◌, ℕ, ◌<◌, ◌^◌, false, Option, Some, Ok, ℤ, pos, negsuc, neg_ℤ, ◌-ℤ◌, ◌<ℤ◌, unsigned_abs, int_div, int_lt, to_z, of_z, w64, true, refl, sym, ap, ap₂, ◌∙◌, arith, subst}
use Rattle.std.specs.Prelude.{codes}
use Rattle.std.specs.Ordering.{int_eq}
use Rattle.std.proofs.lemmas.Int.{ints, by_lt_z, to_z-of_z}
use Rattle.ror_integers.specs.Gcd.{gcd}
use Rattle.ror_table.specs.declared.amount.Amount.{Amount}
use Rattle.ror_table.specs.Amounts.{IsAmount, lowest, amount_of}
use Rattle.ror_table.proofs.AmountLemmas.{lt_of_test, test_of_lt, IsAmount-lowest, amount_of-some}
use Rattle.ror_elements.specs.Tree.{Tree}
use Rattle.ror_xmcda.specs.Nodes.{first_named}
use Rattle.ror_xmcda.specs.Numbers.{number_at, rational}

-- where both parts are read, and the denominator is not 0, the number is their fraction
pub rational_given : (t above below : Tree) (n d : ℤ) → first_named (codes "numerator") t ≡ Some above → number_at above ≡ Ok n → first_named (codes "denominator") t ≡ Some below → number_at below ≡ Ok d → int_eq d (pos 0) ≡ false → rational t ≡ Ok (lowest n d)
unfolding rational
rational_given t above below n d a e b f z = rw (a, e, b, f, z) refl

absolute_turned : (n : ℤ) → unsigned_abs (neg_ℤ n) ≡ unsigned_abs n
absolute_turned n = omega (arith, ints)

-- both signs turned, the fraction is the same
pub lowest_turned : (n d : ℤ) → d <ℤ pos 0 → lowest (neg_ℤ n) (neg_ℤ d) ≡ lowest n d
lowest_turned n (pos d) h = absurd (omega (arith, ints))
lowest_turned n (negsuc d) h = ap₂ (λ (a b : ℕ). record { num = int_div (neg_ℤ n) (pos (gcd a b)); den = int_div (neg_ℤ (negsuc d)) (pos (gcd a b)) }) (absolute_turned n) (absolute_turned (negsuc d))

-- the fraction of two numbers that an element may write
pub IsAmount-fraction : (n d : ℤ) → d ≢ pos 0 → unsigned_abs n < 10 ^ 18 → unsigned_abs d < 10 ^ 18 → IsAmount (lowest n d)
IsAmount-fraction n (pos d) some ln ld = IsAmount-lowest n (pos d) (omega (arith, ints)) ln ld
IsAmount-fraction n (negsuc d) some ln ld =
    let below : negsuc d <ℤ pos 0 = omega (arith, ints) in
    subst IsAmount (lowest_turned n (negsuc d) below) (IsAmount-lowest (neg_ℤ n) (neg_ℤ (negsuc d)) (omega (arith, ints)) (omega (arith, ints)) (omega (arith, ints)))

-- the code's numbers
narrow : (n : ℤ) → unsigned_abs n < 10 ^ 18 → to_z w64 (of_z w64 n) ≡ n
narrow n l = to_z-of_z w64 n (omega (arith, ints))

narrow_turned : (n : ℤ) → unsigned_abs n < 10 ^ 18 → to_z w64 (of_z w64 (pos 0 -ℤ to_z w64 (of_z w64 n))) ≡ neg_ℤ n
narrow_turned n l =
    let turned : pos 0 -ℤ n ≡ neg_ℤ n = omega (arith, ints) in
    ap (λ (z : ℤ). to_z w64 (of_z w64 (pos 0 -ℤ z))) (narrow n l) ∙ ap (λ (z : ℤ). to_z w64 (of_z w64 z)) turned ∙ to_z-of_z w64 (neg_ℤ n) (omega (arith, ints))

pub kept_made : (n d : ℤ) → d ≢ pos 0 → unsigned_abs n < 10 ^ 18 → unsigned_abs d < 10 ^ 18 → int_lt (to_z w64 (of_z w64 d)) (pos 0) ≡ false → amount_of (to_z w64 (of_z w64 n)) (to_z w64 (of_z w64 d)) ≡ Some (lowest n d)
kept_made n d some ln ld h =
    let test : int_lt d (pos 0) ≡ false = ap (λ (z : ℤ). int_lt z (pos 0)) (sym (narrow d ld)) ∙ h in
    ap₂ amount_of (narrow n ln) (narrow d ld) ∙ amount_of-some n d (above d some test) ln ld
  where
    above : (d : ℤ) → d ≢ pos 0 → int_lt d (pos 0) ≡ false → pos 0 <ℤ d
    above d some test = by_lt_z d (pos 0) (λ l. absurd (let no = sym (test_of_lt d (pos 0) l) ∙ test in cc)) (λ l. by_lt_z (pos 0) d (λ k. k) (λ k. absurd (some (omega (arith, ints)))))

pub turned_made : (n d : ℤ) → unsigned_abs n < 10 ^ 18 → unsigned_abs d < 10 ^ 18 → int_lt (to_z w64 (of_z w64 d)) (pos 0) ≡ true → amount_of (to_z w64 (of_z w64 (pos 0 -ℤ to_z w64 (of_z w64 n)))) (to_z w64 (of_z w64 (pos 0 -ℤ to_z w64 (of_z w64 d)))) ≡ Some (lowest n d)
turned_made n d ln ld h =
    let test : int_lt d (pos 0) ≡ true = ap (λ (z : ℤ). int_lt z (pos 0)) (sym (narrow d ld)) ∙ h in
    let below : d <ℤ pos 0 = lt_of_test d (pos 0) test in
    ap₂ amount_of (narrow_turned n ln) (narrow_turned d ld)
    ∙ amount_of-some (neg_ℤ n) (neg_ℤ d) (omega (arith, ints)) (omega (arith, ints)) (omega (arith, ints))
    ∙ ap (λ (p : Amount). Some p) (lowest_turned n d below)

pub some_once : (o : Option Amount) (p q : Amount) → o ≡ Some p → o ≡ Some q → p ≡ q
some_once o p q e f = let same : Some p ≡ Some q = sym e ∙ f in cc
