use Rattle.std.proofs.Common.{◌≤◌, ap, arith, ◌*◌}
use Rattle.ror_table.proofs.SpellingLemmas.{ten_power_fits}
use Rattle.ror_table.proofs.spelling.power_of_ten.Goals as goal

pub overflow_mul-power : goal.overflow_mul-power
overflow_mul-power c =
    let below : c.loop.counter ≤ 17 = omega arith in
    let fits = ten_power_fits c.loop.counter below in
    let same = ap (λ n. n * 10) c.loop.invariant.0 in
    omega arith
