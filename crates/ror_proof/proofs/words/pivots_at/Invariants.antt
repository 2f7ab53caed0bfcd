use Rattle.std.proofs.Common.{◌≡◌, length}
use Rattle.ror_proof.specs.Words.{pivots_at}
use Rattle.ror_proof.proofs.Loops.{after_front}
use Rattle.ror_proof.proofs.words.pivots_at.Given as goal

abbrev pub invariant-pivots : goal.invariant-pivots
invariant-pivots l = after_front l.pivots.items (pivots_at l.place l.left) ≡ pivots_at l.place l.fn.words

abbrev pub decreases-pivots : goal.decreases-pivots
decreases-pivots l = length l.left
