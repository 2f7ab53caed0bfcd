-- Division by digits.
use Rattle.std.proofs.Common.{◌≡◌, ℕ, ◌+◌, ◌*◌, ◌/◌, ◌%◌, ◌<◌, ap, ◌∙◌, arith}
use Rattle.std.proofs.lemmas.Nat.{div-mul-add, mod-mul-add}

-- the quotient and the remainder are the only such numbers
pub count_is : (n w count rest : ℕ) → n ≡ count * w + rest → rest < w → n / w ≡ count
count_is n w count rest is below = ap (λ m. m / w) is ∙ div-mul-add count w rest below

pub rest_is : (n w count rest : ℕ) → n ≡ count * w + rest → rest < w → n % w ≡ rest
rest_is n w count rest is below = ap (λ m. m % w) is ∙ mod-mul-add count w rest below

-- three digits, one after the other
pub three_digits : (n w a b c first second third : ℕ) → 10 * n ≡ a * w + first → 10 * first ≡ b * w + second → 10 * second ≡ c * w + third → 1000 * n ≡ (100 * a + 10 * b + c) * w + third
three_digits n w a b c first second third one two three = omega (arith, one, two, three)
