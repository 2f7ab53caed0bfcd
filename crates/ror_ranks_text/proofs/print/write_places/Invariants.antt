use Rattle.std.proofs.Common.{◌≡◌, ◌++◌, drop, map}
use Rattle.std.specs.Prelude.{decimal}
use Rattle.ror_proof.specs.Printing.{spaced, StandsInFront}
use Rattle.ror_ranks_text.proofs.print.write_places.Given as goal

abbrev pub invariant-places : goal.invariant-places
invariant-places l = record {
  printed : l.text.items ++ spaced (map decimal (drop l.place-index l.places)) ≡ l.initial.text.items ++ spaced (map decimal l.places);
  front : StandsInFront l.initial.text.items l.text.items;
}
