use Rattle.std.proofs.Common.{◌≡◌, ◌++◌, length}
use Rattle.ror_text.specs.SpacedLines.{spaced_words}
use Rattle.ror_show_hints.specs.Forms.{flowed}
use Rattle.ror_show_hints.proofs.said.write_words.Given as goal

abbrev pub invariant-words : goal.invariant-words
invariant-words l = l.text.items ++ flowed l.room l.left ≡ l.fn.text.items ++ flowed 110 (spaced_words l.sentence)

abbrev pub decreases-words : goal.decreases-words
decreases-words l = length l.left
