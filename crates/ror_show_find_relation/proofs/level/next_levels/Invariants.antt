use Rattle.std.proofs.Common.{◌≡◌, map}
use Rattle.std.specs.List.{range_with_len}
use Rattle.ror_show_find_relation.specs.Passes.{next_level}
use Rattle.ror_show_find_relation.proofs.level.next_levels.Given as goal

abbrev pub invariant-loop-a : goal.invariant-loop-a
invariant-loop-a l = l.made.items ≡ map (next_level l.relation l.found l.level) (range_with_len 0 l.a)
