use Rattle.std.proofs.Common.{◌≡◌, ◌++◌, drop}
use Rattle.std.specs.List.{AllByRecursion, flat_map}
use Rattle.ror_proof.specs.Printing.{StandsInFront}
use Rattle.ror_ranks_text.specs.Text.{conflict_text, IsPrintableConflict}
use Rattle.ror_ranks_text.proofs.print.write_conflicts.Given as goal

abbrev pub invariant-conflicts : goal.invariant-conflicts
invariant-conflicts l = record {
  printed : l.text.items ++ flat_map (conflict_text l.table) (drop l.conflict-index l.conflicts) ≡ l.initial.text.items ++ flat_map (conflict_text l.table) l.conflicts;
  front : StandsInFront l.initial.text.items l.text.items;
  printable : AllByRecursion (IsPrintableConflict l.table) (drop l.conflict-index l.conflicts);
}
