use Rattle.std.proofs.Common.{◌≡◌, ◌≤◌, ◌+◌, ◌-◌, ◌++◌}
use Rattle.std.specs.Prelude.{map}
use Rattle.std.specs.List.{range_with_len}
use Rattle.ror_confidence.specs.Levels.{level_lists, list_at}
use Rattle.ror_confidence.proofs.levels.level_lists.Given as goal

abbrev pub invariant-levels : goal.invariant-levels
invariant-levels l = record {
  upto : l.level ≤ l.levels.count;
  lists : l.lists.items ++ map (list_at l.standing l.levels) (range_with_len (l.level + 1) (l.levels.count - l.level)) ≡ level_lists l.standing l.levels;
}

abbrev pub decreases-levels : goal.decreases-levels
decreases-levels l = l.levels.count - l.level
