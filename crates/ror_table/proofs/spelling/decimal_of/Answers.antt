use Rattle.std.proofs.Common.{◌≡◌, ◌≤◌, ◌<◌, ◌^◌, ◌∙◌, ap₂, length, arith, refl, pos, ◌-ℤ◌, w64, to_z, of_z}
use Rattle.std.proofs.lemmas.Int.{ints}
use Rattle.ror_text.specs.Numbers.{negative}
use Rattle.ror_table.specs.Amounts.{amount_of}
use Rattle.ror_table.proofs.SpellingLemmas.{ten_power_bounded, decimal_made, negative_abs}
use Rattle.ror_table.proofs.spelling.decimal_of.Goals as goal

pub overflow_cast-den : goal.overflow_cast-den
overflow_cast-den c =
    let few : length c.args.behind.now ≤ 17 = c.in_ok-num.ensures.small.1 in
    let small = ten_power_bounded (length c.args.behind.now) few in
    let same = c.power_of_ten-den.ensures in
    omega (arith, ints)

pub returns-then-is_negative-clause-negative : goal.returns-then-is_negative-clause-negative
returns-then-is_negative-clause-negative c is =
    let below : c.in_ok-num.field-0 < 10 ^ 18 = c.in_ok-num.ensures.small.0 in
    let few : length c.args.behind.now ≤ 17 = c.in_ok-num.ensures.small.1 in
    let small = ten_power_bounded (length c.args.behind.now) few in
    let same = c.power_of_ten-den.ensures in
    let num : to_z w64 (of_z w64 (pos 0 -ℤ to_z w64 c.in_ok-num.field-0)) ≡ negative c.in_ok-num.field-0 = omega (arith, ints) in
    let den : to_z w64 c.power_of_ten-den.result ≡ pos (10 ^ length c.args.behind.now) = omega (arith, ints) in
    c.new.ensures.value
    ∙ ap₂ amount_of num den
    ∙ decimal_made negative c.args.before.now c.args.behind.now c.in_ok-num.field-0 (negative_abs c.in_ok-num.field-0) c.in_ok-num.ensures.value below few

pub returns-clause-plain : goal.returns-clause-plain
returns-clause-plain c is =
    let below : c.in_ok-num.field-0 < 10 ^ 18 = c.in_ok-num.ensures.small.0 in
    let few : length c.args.behind.now ≤ 17 = c.in_ok-num.ensures.small.1 in
    let small = ten_power_bounded (length c.args.behind.now) few in
    let same = c.power_of_ten-den.ensures in
    let num : to_z w64 c.in_ok-num.field-0 ≡ pos c.in_ok-num.field-0 = omega (arith, ints) in
    let den : to_z w64 c.power_of_ten-den.result ≡ pos (10 ^ length c.args.behind.now) = omega (arith, ints) in
    c.new-2.ensures.value
    ∙ ap₂ amount_of num den
    ∙ decimal_made pos c.args.before.now c.args.behind.now c.in_ok-num.field-0 refl c.in_ok-num.ensures.value below few
