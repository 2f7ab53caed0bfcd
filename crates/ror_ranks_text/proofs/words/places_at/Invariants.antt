use Rattle.std.proofs.Common.{◌≡◌, length}
use Rattle.ror_proof.proofs.Loops.{after_front}
use Rattle.ror_ranks_text.specs.Reading.{places_at}
use Rattle.ror_ranks_text.proofs.words.places_at.Given as goal

abbrev pub invariant-places : goal.invariant-places
invariant-places l = after_front l.places.items (places_at l.place l.left) ≡ places_at l.place l.fn.words

abbrev pub decreases-places : goal.decreases-places
decreases-places l = length l.left
