use Rattle.std.proofs.Common.{◌≡◌, length}
use Rattle.ror_discriminate.specs.Reading.{steps_at}
use Rattle.ror_proof.proofs.Loops.{after_front}
use Rattle.ror_discriminate.proofs.words.steps_at.Given as goal

abbrev pub invariant-steps : goal.invariant-steps
invariant-steps l = after_front l.steps.items (steps_at l.place l.left) ≡ steps_at l.place l.fn.words

abbrev pub decreases-steps : goal.decreases-steps
decreases-steps l = length l.left
