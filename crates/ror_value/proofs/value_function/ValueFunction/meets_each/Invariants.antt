use Rattle.std.proofs.Common.{◌↔◌, drop, option_to_list}
use Rattle.std.specs.List.{AllByRecursion, flat_map}
use Rattle.ror_statement.specs.Statements.{comparison_of}
use Rattle.ror_value.specs.Meaning.{Holds}
use Rattle.ror_value.proofs.value_function.ValueFunction.meets_each.Given as goal

abbrev pub invariant-loop-statement : goal.invariant-loop-statement
invariant-loop-statement l =
    AllByRecursion (Holds l.table l.self.steps) (flat_map (λ s. option_to_list (comparison_of s)) l.list)
    ↔ AllByRecursion (Holds l.table l.self.steps) (flat_map (λ s. option_to_list (comparison_of s)) (drop l.statement-index l.list))
