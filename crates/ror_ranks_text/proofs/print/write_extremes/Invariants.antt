use Rattle.std.proofs.Common.{◌≡◌, ◌++◌, drop}
use Rattle.std.specs.List.{AllByRecursion, flat_map}
use Rattle.ror_proof.specs.Printing.{StandsInFront}
use Rattle.ror_ranks_text.specs.Text.{extreme_text, IsPrintableExtreme}
use Rattle.ror_ranks_text.proofs.print.write_extremes.Given as goal

abbrev pub invariant-extremes : goal.invariant-extremes
invariant-extremes l = record {
  printed : l.text.items ++ flat_map (extreme_text l.table) (drop l.extreme-index l.extremes) ≡ l.initial.text.items ++ flat_map (extreme_text l.table) l.extremes;
  front : StandsInFront l.initial.text.items l.text.items;
  printable : AllByRecursion (IsPrintableExtreme l.table) (drop l.extreme-index l.extremes);
}
