use Rattle.ror_check.proofs.Bases.{same_solutions, same_with_weak, same_without_weak}
use Rattle.ror_check.proofs.base.is_same.Goals as goal

pub returns-in-Solution-Solution : goal.returns-in-Solution-Solution
returns-in-Solution-Solution c =
    let here = c.in-Solution-Solution in
    rw (here.is-0, here.is-1) (same_solutions _ _ c.is_same.result c.is_same.ensures)

pub returns-then-is_same : goal.returns-then-is_same
returns-then-is_same c =
    let here = c.in-Multipliers-Multipliers in
    rw (here.is-0, here.is-1) (same_with_weak _ _ c.is_same-in-Multipliers-Multipliers.result c.is_same-then-is_same.result c.is_same-in-Multipliers-Multipliers.ensures c.if-is_same.true c.is_same-then-is_same.ensures)

pub returns-else-is_same : goal.returns-else-is_same
returns-else-is_same c =
    let here = c.in-Multipliers-Multipliers in
    rw (here.is-0, here.is-1) (same_without_weak _ _ c.is_same-in-Multipliers-Multipliers.result c.is_same-in-Multipliers-Multipliers.ensures c.if-is_same.false)
