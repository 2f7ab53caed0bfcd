use Rattle.std.proofs.Common.{◌≡◌, ◌++◌, take, option_to_list}
use Rattle.std.specs.List.{flat_map}
use Rattle.ror_statement.specs.Statements.{comparison_of}
use Rattle.ror_show_find_proofs.proofs.compared.push_stated.Given as goal

abbrev pub invariant-loop-statement : goal.invariant-loop-statement
invariant-loop-statement l = l.made.items ≡ l.fn.made.items ++ flat_map (λ s. option_to_list (comparison_of s)) (take l.statement-index l.list)
