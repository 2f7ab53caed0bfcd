use Rattle.std.proofs.Common.{◌+◌, ◌≤◌, length}
use Rattle.ror_show_find_relation.proofs.Passing.{Upto, left}
use Rattle.ror_show_find_relation.proofs.level.levels.Given as goal

abbrev pub invariant-loop-before : goal.invariant-loop-before
invariant-loop-before l = record {
  found : Upto l.relation l.found.items l.before;
  room : left l.found.items + l.before ≤ length l.relation;
}
