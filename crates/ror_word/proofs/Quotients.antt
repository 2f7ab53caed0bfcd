-- Quotients without a rest, and quotients rounded down, as the code computes them at a width.
use Rattle.std.proofs.Common.{◌≡◌, ℕ, ℤ, pos, negsuc, ◌+ℤ◌, ◌-ℤ◌, ◌*ℤ◌, neg_ℤ, unsigned_abs, int_div, FitsSigned, to_z, of_z, ap, ◌∙◌, arith}
use Prim.Native.Nat.{◌∣◌}
use mir.Syntax.{Width}
use Rattle.std.proofs.Math.Nat.{mod-eq-zero_of_dvd}
use Rattle.std.proofs.lemmas.Int.{quot-rem, to_z-of_z, quot_is}
use Rattle.ror_integers.proofs.Ring.{sums, difference-product, one-product}

pub exact_division : (a d : ℤ) → unsigned_abs d ∣ unsigned_abs a → int_div a d *ℤ d ≡ a
exact_division (pos a) d h = let e = mod-eq-zero_of_dvd (unsigned_abs d) h in omega (arith, sums, quot-rem (pos a) d, ap pos e)
exact_division (negsuc a) d h = let e = mod-eq-zero_of_dvd (unsigned_abs d) h in omega (arith, sums, quot-rem (negsuc a) d, ap (λ (r : ℕ). neg_ℤ (pos r)) e)

-- a quotient less one leaves the divisor more
pub one_less : (a d q r : ℤ) → q *ℤ d +ℤ r ≡ a → a ≡ (q -ℤ pos 1) *ℤ d +ℤ (r +ℤ d)
one_less a d q r e = omega (arith, sums, difference-product q (pos 1) d, one-product d)

-- what the code gives back where the rest is negative
pub rounded_down : (w : Width) (a d q r : ℤ) → FitsSigned w d → q *ℤ d +ℤ r ≡ a → FitsSigned w (q -ℤ pos 1) → FitsSigned w (r +ℤ to_z w (of_z w d)) → a ≡ to_z w (of_z w (q -ℤ pos 1)) *ℤ d +ℤ to_z w (of_z w (r +ℤ to_z w (of_z w d)))
rounded_down w a d q r f e g h =
    let i : FitsSigned w (r +ℤ d) = rw to_z-of_z at h in
    rw (to_z-of_z w d f, to_z-of_z w (q -ℤ pos 1) g, to_z-of_z w (r +ℤ d) i) (one_less a d q r e)

-- the code's quotient without a rest
pub quotient_times : (w : Width) (a d : ℤ) → FitsSigned w a → FitsSigned w d → FitsSigned w (int_div a d) → unsigned_abs d ∣ unsigned_abs a → to_z w (of_z w (int_div (to_z w (of_z w a)) (to_z w (of_z w d)))) *ℤ d ≡ a
quotient_times w a d f g h k = ap (λ (q : ℤ). q *ℤ d) (quot_is w a d f g h) ∙ exact_division a d k
