use Rattle.std.proofs.Common.{◌≡◌, ◌++◌, drop}
use Rattle.ror_proof.proofs.copies.copied_parts.Given as goal

abbrev pub invariant-parts : goal.invariant-parts
invariant-parts l = l.copies.items ++ drop l.part-index l.parts ≡ l.parts
