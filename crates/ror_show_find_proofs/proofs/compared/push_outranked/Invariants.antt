use Rattle.std.proofs.Common.{◌≡◌, ◌++◌, take}
use Rattle.std.specs.List.{flat_map}
use Rattle.ror_statement.specs.Statements.{outranking}
use Rattle.ror_show_find_proofs.proofs.compared.push_outranked.Given as goal

abbrev pub invariant-loop-second : goal.invariant-loop-second
invariant-loop-second l = l.made.items ≡ l.fn.made.items ++ flat_map (outranking l.fn.first) (take l.second-index l.list)
