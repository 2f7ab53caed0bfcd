use Rattle.std.proofs.Common.{take}
use Rattle.ror_table.specs.Levels.{IsLevels}
use Rattle.ror_table.proofs.levels.levels_of.Given as goal

abbrev pub invariant-loop-performance : goal.invariant-loop-performance
invariant-loop-performance l = IsLevels l.direction (take l.performance-index l.performances) l.levels.items
