use Rattle.std.proofs.Common.{◌≡◌, length}
use Rattle.ror_proof.specs.Words.{all_at}
use Rattle.ror_proof.proofs.Loops.{after_front}
use Rattle.ror_ranks_text.specs.Reading.{alternative_in}
use Rattle.ror_ranks_text.proofs.words.ids_at.Given as goal

abbrev pub invariant-ids : goal.invariant-ids
invariant-ids l = after_front l.ids.items (all_at (alternative_in l.table l.place) l.left) ≡ all_at (alternative_in l.table l.place) l.fn.words

abbrev pub decreases-ids : goal.decreases-ids
decreases-ids l = length l.left
