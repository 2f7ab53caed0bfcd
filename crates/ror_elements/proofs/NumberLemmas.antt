-- Numbers that stop at a limit.
use Rattle.std.proofs.Common.{◌≡◌, ℕ, suc, ◌+◌, ◌*◌, ◌^◌, ◌<◌, ◌≤◌, List, ◌∷◌, length, drop, get_or, sym, ap, ◌∙◌, arith, inl, inr}
use Rattle.std.specs.Prelude.{min}
use Rattle.std.proofs.Math.Nat.{min-eq_left, min-eq_right, mul-le-mul_left, mul-le-mul_right, one-le-pow, pow-succ'}
use Rattle.std.proofs.lemmas.Bool.{cases_lt}
use Rattle.std.proofs.Math.Seq.{drop-cons}
use Rattle.ror_elements.specs.References.{digit_value, digits_number}

-- once at the limit, always at it
pub capped_step : (limit x power v : ℕ) → 1 ≤ power → min (min x limit * power + v) limit ≡ min (x * power + v) limit
capped_step limit x power v positive =
    elim (cases_lt x limit) [
      | inl below ↦ ap (λ n. min (n * power + v) limit) (min-eq_left (omega arith))
      | inr past ↦
          let same : min x limit ≡ limit = min-eq_right past in
          let one : limit * 1 ≤ limit * power = mul-le-mul_left limit positive in
          let two : limit * power ≤ x * power = mul-le-mul_right power past in
          ap (λ n. min (n * power + v) limit) same ∙ min-eq_right (omega arith) ∙ sym (min-eq_right (omega arith))
    ]

regroup : (number base d power whole v : ℕ) → whole ≡ base * power → (number * base + d) * power + v ≡ number * whole + (d * power + v)
regroup number base d power whole v e = rw e (omega arith)

next_digit : (digits : List ℕ) (i : ℕ) → i < length digits → drop i digits ≡ get_or digits i 0 ∷ drop (i + 1) digits
next_digit digits i within =
    let next : suc i ≡ i + 1 = omega arith in
    drop-cons digits i 0 within ∙ ap (λ n. get_or digits i 0 ∷ drop n digits) next

-- one more digit
pub digit_step : (limit base number : ℕ) (digits : List ℕ) (i : ℕ) → 1 ≤ base → i < length digits
    → min (min (number * base + digit_value (get_or digits i 0)) limit * base ^ length (drop (i + 1) digits) + digits_number base (drop (i + 1) digits)) limit
    ≡ min (number * base ^ length (drop i digits) + digits_number base (drop i digits)) limit
digit_step limit base number digits i low within =
    let rest = drop (i + 1) digits in
    let power = base ^ length rest in
    let d = digit_value (get_or digits i 0) in
    capped_step limit (number * base + d) power (digits_number base rest) (one-le-pow (length rest) base low)
    ∙ ap (λ n. min n limit) (regroup number base d power (base ^ suc (length rest)) (digits_number base rest) (pow-succ' base (length rest)))
    ∙ ap (λ ds. min (number * base ^ length ds + digits_number base ds) limit) (sym (next_digit digits i within))
