use Rattle.std.proofs.Common.{◌≤◌}
use Rattle.ror_ranks_find.specs.Search.{IsOneWithin}
use Rattle.ror_ranks_find.proofs.smaller.smaller.Given as goal

abbrev pub invariant-loop-member : goal.invariant-loop-member
invariant-loop-member l = IsOneWithin l.sought l.fn.conflict.items l.conflict.items × (l.fn.engine.pivots ≤ l.engine.pivots)
