use Rattle.std.proofs.Common.{◌≡◌, ◌++◌, drop}
use Rattle.std.specs.List.{flat_map}
use Rattle.ror_proof.specs.Printing.{StandsInFront}
use Rattle.ror_proof.specs.Text.{part_text}
use Rattle.ror_proof.proofs.print.write_parts.Given as goal

abbrev pub invariant-parts : goal.invariant-parts
invariant-parts l = record {
  printed : l.text.items ++ (flat_map part_text) (drop l.part-index l.parts) ≡ l.initial.text.items ++ (flat_map part_text) l.parts;
  front : StandsInFront l.initial.text.items l.text.items;
}
