use Rattle.std.proofs.Common.{◌≡◌, ◌++◌, take}
use Rattle.std.specs.List.{flat_map}
use Rattle.ror_show_find_proofs.specs.Weights.{condition_of}
use Rattle.ror_show_find_proofs.proofs.owners.push_against.Given as goal

abbrev pub invariant-part : goal.invariant-part
invariant-part l = l.owners.items ≡ l.initial.owners.items ++ flat_map (condition_of l.class) (take l.x-index l.part)
