use Rattle.std.proofs.Common.{◌≡◌, ◌++◌, true, drop, take}
use Rattle.std.specs.List.{flat_map, AllByRecursion}
use Rattle.ror_group.specs.Head.{desk_text, is_desk_name}
use Rattle.ror_group.proofs.head.write_desks.Given as goal

abbrev pub invariant-names : goal.invariant-names
invariant-names l = record {
  printed : l.text.items ++ flat_map desk_text (drop l.name-index l.names) ≡ l.initial.text.items ++ flat_map desk_text l.names;
  allowed : AllByRecursion (λ name. is_desk_name name ≡ true) (take l.name-index l.names);
}
