use Rattle.std.proofs.Common.{◌≡◌, length}
use Rattle.ror_show_hints.specs.Hints.{first_word}
use Rattle.ror_show_hints.proofs.words.first_word.Given as goal

abbrev pub invariant-blanks : goal.invariant-blanks
invariant-blanks l = first_word l.rest ≡ first_word l.text

abbrev pub decreases-blanks : goal.decreases-blanks
decreases-blanks l = length l.rest
