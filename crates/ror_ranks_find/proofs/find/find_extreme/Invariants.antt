use Rattle.std.proofs.Common.{◌≡◌, ◌+◌, ◌-◌, ◌≤◌, length}
use Rattle.ror_ranks_find.specs.Search.{IsDone, IsFoundFor, IsGrown}
use Rattle.ror_ranks_find.proofs.find.find_extreme.Given as goal

-- the last tree that was whole, and the next one, for one alternative more
abbrev pub invariant-levels : goal.invariant-levels
invariant-levels l = record {
  found : IsFoundFor l.sought l.found;
  done : IsDone l.found.conflicts.items l.done;
  next : IsGrown l.found l.next;
  one_more : l.next.goal ≡ l.done.goal + 1;
  counted : l.fn.engine.pivots ≤ l.engine.pivots;
}

-- a whole tree shows no more than may count by the function that is kept, and these are fewer than the alternatives
abbrev pub decreases-levels : goal.decreases-levels
decreases-levels l = length l.sought.asked.table.now.alternatives + 1 - l.next.goal
