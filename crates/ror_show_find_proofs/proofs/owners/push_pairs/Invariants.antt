use Rattle.std.proofs.Common.{◌≡◌, ◌++◌, take}
use Rattle.std.specs.List.{flat_map}
use Rattle.ror_show_find_proofs.specs.Weights.{pair_of}
use Rattle.ror_show_find_proofs.proofs.owners.push_pairs.Given as goal

abbrev pub invariant-part : goal.invariant-part
invariant-part l = l.owners.items ≡ l.initial.owners.items ++ flat_map (pair_of l.first) (take l.second-index l.part)
