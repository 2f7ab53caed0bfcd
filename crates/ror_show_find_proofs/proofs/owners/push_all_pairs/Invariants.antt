use Rattle.std.proofs.Common.{◌≡◌, ◌++◌, take}
use Rattle.std.specs.List.{flat_map}
use Rattle.ror_show_find_proofs.specs.Weights.{pairs_of}
use Rattle.ror_show_find_proofs.proofs.owners.push_all_pairs.Given as goal

abbrev pub invariant-part : goal.invariant-part
invariant-part l = l.owners.items ≡ l.initial.owners.items ++ flat_map (pairs_of l.part) (take l.x-index l.part)
