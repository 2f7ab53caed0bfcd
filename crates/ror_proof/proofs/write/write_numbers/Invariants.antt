use Rattle.std.proofs.Common.{◌≡◌, ◌++◌, drop, map}
use Rattle.std.specs.Fmt.{signed_decimal}
use Rattle.ror_proof.specs.Printing.{spaced, StandsInFront}
use Rattle.ror_proof.proofs.write.write_numbers.Given as goal

abbrev pub invariant-loop-k : goal.invariant-loop-k
invariant-loop-k l = record {
  printed : l.text.items ++ spaced (map signed_decimal (drop l.k l.numbers)) ≡ l.initial.text.items ++ spaced (map signed_decimal l.numbers);
  front : StandsInFront l.initial.text.items l.text.items;
}
