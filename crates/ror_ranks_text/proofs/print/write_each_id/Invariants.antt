use Rattle.std.proofs.Common.{◌≡◌, ◌++◌, drop, map, ◌<◌, length}
use Rattle.std.specs.List.{AllByRecursion}
use Rattle.ror_table.specs.Table.{id_of}
use Rattle.ror_proof.specs.Printing.{spaced, StandsInFront}
use Rattle.ror_ranks_text.proofs.print.write_each_id.Given as goal

abbrev pub invariant-members : goal.invariant-members
invariant-members l = record {
  printed : l.text.items ++ spaced (map (id_of l.table) (drop l.member-index l.members)) ≡ l.initial.text.items ++ spaced (map (id_of l.table) l.members);
  front : StandsInFront l.initial.text.items l.text.items;
  of_table : AllByRecursion (λ b. b < length l.table.alternatives) (drop l.member-index l.members);
}
