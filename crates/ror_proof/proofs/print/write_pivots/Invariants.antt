use Rattle.std.proofs.Common.{◌≡◌, ◌++◌, drop, map}
use Rattle.ror_proof.specs.Printing.{spaced, StandsInFront}
use Rattle.ror_proof.specs.Text.{pivot_word}
use Rattle.ror_proof.proofs.print.write_pivots.Given as goal

abbrev pub invariant-pivots : goal.invariant-pivots
invariant-pivots l = record {
  printed : l.text.items ++ spaced (map pivot_word (drop l.pivot-index l.pivots)) ≡ l.initial.text.items ++ spaced (map pivot_word l.pivots);
  front : StandsInFront l.initial.text.items l.text.items;
}
