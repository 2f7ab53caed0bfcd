use Rattle.std.proofs.Common.{◌↔◌, drop}
use Rattle.std.specs.List.{AllByRecursion, flat_map}
use Rattle.ror_statement.specs.Statements.{outranking}
use Rattle.ror_value.specs.Meaning.{Holds}
use Rattle.ror_value.proofs.value_function.ValueFunction.ranks_above.Given as goal

abbrev pub invariant-loop-second : goal.invariant-loop-second
invariant-loop-second l =
    AllByRecursion (Holds l.table l.self.steps) (flat_map (outranking l.first) l.list)
    ↔ AllByRecursion (Holds l.table l.self.steps) (flat_map (outranking l.first) (drop l.second-index l.list))
