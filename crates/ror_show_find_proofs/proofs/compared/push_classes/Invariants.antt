use Rattle.std.proofs.Common.{◌≡◌, ◌++◌, take}
use Rattle.std.specs.List.{flat_map}
use Rattle.ror_statement.specs.Statements.{outranking}
use Rattle.ror_show_find_proofs.proofs.compared.push_classes.Given as goal

abbrev pub invariant-loop-first : goal.invariant-loop-first
invariant-loop-first l = l.made.items ≡ l.fn.made.items ++ flat_map (λ r. flat_map (outranking r) l.list) (take l.first-index l.list)
