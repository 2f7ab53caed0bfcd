use Rattle.std.proofs.Common.{◌≡◌, length}
use Rattle.ror_proof.proofs.Loops.{after_front}
use Rattle.ror_show_forms.specs.Reading.{small_numbers_at}
use Rattle.ror_show_forms.proofs.read.numbers_at.Given as goal

abbrev pub invariant-numbers : goal.invariant-numbers
invariant-numbers l = after_front l.numbers.items (small_numbers_at l.place l.left) ≡ small_numbers_at l.place l.fn.words

abbrev pub decreases-numbers : goal.decreases-numbers
decreases-numbers l = length l.left
