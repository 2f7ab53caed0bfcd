use Rattle.std.proofs.Common.{◌≡◌, length, map}
use Rattle.std.specs.String.{string_bytes}
use Rattle.ror_words.specs.Words.{read_on}
use Rattle.ror_words.specs.Named.{reading_with}
use Rattle.ror_words.proofs.words.Reading.take_all.Given as goal

abbrev pub invariant-words : goal.invariant-words
invariant-words l = read_on (reading_with l.self) (map string_bytes l.left) ≡ read_on (reading_with l.fn.self) (map string_bytes l.words)

abbrev pub decreases-words : goal.decreases-words
decreases-words l = length l.left
