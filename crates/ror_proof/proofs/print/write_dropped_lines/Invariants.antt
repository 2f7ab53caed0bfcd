use Rattle.std.proofs.Common.{◌≡◌, ◌++◌, drop}
use Rattle.std.specs.List.{flat_map}
use Rattle.ror_proof.specs.Printing.{StandsInFront}
use Rattle.ror_proof.specs.Text.{dropped_text}
use Rattle.ror_proof.proofs.print.write_dropped_lines.Given as goal

abbrev pub invariant-dropped : goal.invariant-dropped
invariant-dropped l = record {
  printed : l.text.items ++ flat_map dropped_text (drop l.statement-index l.dropped) ≡ l.initial.text.items ++ flat_map dropped_text l.dropped;
  front : StandsInFront l.initial.text.items l.text.items;
}
