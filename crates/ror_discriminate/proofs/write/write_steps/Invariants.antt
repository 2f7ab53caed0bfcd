use Rattle.std.proofs.Common.{◌≡◌, ◌++◌, drop, map}
use Rattle.ror_proof.specs.Printing.{spaced, StandsInFront}
use Rattle.ror_discriminate.specs.Text.{step_word}
use Rattle.ror_discriminate.proofs.write.write_steps.Given as goal

abbrev pub invariant-path : goal.invariant-path
invariant-path l = record {
  printed : l.text.items ++ spaced (map step_word (drop l.step-index l.path)) ≡ l.initial.text.items ++ spaced (map step_word l.path);
  front : StandsInFront l.initial.text.items l.text.items;
}
