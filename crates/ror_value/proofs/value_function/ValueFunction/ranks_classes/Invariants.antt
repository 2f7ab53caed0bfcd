use Rattle.std.proofs.Common.{◌↔◌, drop}
use Rattle.std.specs.List.{AllByRecursion, flat_map}
use Rattle.ror_statement.specs.Statements.{outranking, class_comparisons}
use Rattle.ror_value.specs.Meaning.{Holds}
use Rattle.ror_value.proofs.value_function.ValueFunction.ranks_classes.Given as goal

abbrev pub invariant-loop-first : goal.invariant-loop-first
invariant-loop-first l =
    AllByRecursion (Holds l.table l.self.steps) (class_comparisons l.list)
    ↔ AllByRecursion (Holds l.table l.self.steps) (flat_map (λ r. flat_map (outranking r) l.list) (drop l.first-index l.list))
