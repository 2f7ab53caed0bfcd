use Rattle.std.proofs.Common.{arith, rules, ◌≡◌, ℤ, ◌+ℤ◌, ◌-ℤ◌}
use Rattle.std.proofs.lemmas.Int.{ints, to_z-of_z}
use mir.Syntax.{w64}
use mir.Val.{SFits}
use Rattle.ror_bench.proofs.generated.hidden_value.Goals as goal

sum_of_four : (a b c d a' b' c' d' : ℤ) → a ≡ a' → b ≡ b' → c ≡ c' → d ≡ d' → a -ℤ b +ℤ c -ℤ d ≡ a' -ℤ b' +ℤ c' -ℤ d'
sum_of_four a b c d a' b' c' d' p q r s = cc

pub overflow_sub-result : goal.overflow_sub-result
overflow_sub-result c = omega (arith, ints)

pub overflow_add-result : goal.overflow_add-result
overflow_add-result c = omega (arith, ints)

pub overflow_sub-result-2 : goal.overflow_sub-result-2
overflow_sub-result-2 c = omega (arith, ints)

pub returns : goal.returns
returns c =
    let is = sum_of_four _ _ _ _ _ _ _ _ c.performance.ensures.value c.performance-2.ensures.value c.performance-3.ensures.value c.performance-4.ensures.value in
    let f0 : SFits w64 c.performance.result = search rules in
    let f1 : SFits w64 c.performance-2.result = search rules in
    let f2 : SFits w64 c.performance-3.result = search rules in
    let f3 : SFits w64 c.performance-4.result = search rules in
    let g1 : SFits w64 (c.performance.result -ℤ c.performance-2.result) = omega (arith, ints) in
    let g2 : SFits w64 (c.performance.result -ℤ c.performance-2.result +ℤ c.performance-3.result) = omega (arith, ints) in
    let g3 : SFits w64 (c.performance.result -ℤ c.performance-2.result +ℤ c.performance-3.result -ℤ c.performance-4.result) = omega (arith, ints) in
    simp to_z-of_z is
