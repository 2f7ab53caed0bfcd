-- The laws of texts that the crate claims.
use Rattle.std.specs.Prelude.{◌≡◌, ◌↔◌, ◌<◌, ◌^◌, ℕ, ℤ, true, List, ◌∷◌, ◌++◌, Some, unsigned_abs}
use Rattle.std.specs.Fmt.{decimal, signed_decimal}
use Rattle.ror_text.specs.declared.lines.TheConstants.{MOST_TEXT_BYTES}
use Rattle.ror_text.specs.declared.numbers.TheConstants.{NUMBER_LIMIT}
use Rattle.ror_text.specs.Numbers.{number_of, small_number_of}
use Rattle.ror_text.specs.SpacedLines.{split_line, spaced_words, join_words, is_word, are_words}

-- a word is a report number exactly where it is the number's one text
abbrev pub NumbersHaveOneText : Type 0
NumbersHaveOneText = (word : List ℕ) (z : ℤ)
    → (number_of word ≡ Some z) ↔ ((word ≡ signed_decimal z) × (unsigned_abs z < NUMBER_LIMIT))

abbrev pub SmallNumbersHaveOneText : Type 0
SmallNumbersHaveOneText = (word : List ℕ) (n : ℕ)
    → (small_number_of word ≡ Some n) ↔ ((word ≡ decimal n) × (n < 2 ^ 32))

-- the texts of numbers are words
abbrev pub NumbersAreWords : Type 0
NumbersAreWords = (z : ℤ) → unsigned_abs z < NUMBER_LIMIT → is_word (signed_decimal z) ≡ true

-- words without spaces and line feeds that are joined to a line are cut again, and the line ends
-- where it was ended
abbrev pub JoinedWordsAreCutAgain : Type 0
JoinedWordsAreCutAgain = (word : List ℕ) (ws : List (List ℕ)) → are_words (word ∷ ws) ≡ true
    → spaced_words (join_words (word ∷ ws)) ≡ word ∷ ws

abbrev pub CutWordsAreJoinedAgain : Type 0
CutWordsAreJoinedAgain = (line : List ℕ) → join_words (spaced_words line) ≡ line

abbrev pub LinesEndAtTheirEnd : Type 0
LinesEndAtTheirEnd = (ws : List (List ℕ)) (rest : List ℕ) → are_words ws ≡ true
    → split_line (join_words ws ++ 10 ∷ rest) ≡ Some (join_words ws, rest)

-- what is cut at the first line end gives the bytes again
abbrev pub CutLinesGiveTheBytes : Type 0
CutLinesGiveTheBytes = (bytes line rest : List ℕ) → split_line bytes ≡ Some (line, rest)
    → bytes ≡ line ++ 10 ∷ rest

-- what the limits of texts and of a report's numbers are
abbrev pub LimitsAre : Type 0
LimitsAre = (MOST_TEXT_BYTES ≡ 16777216) × (NUMBER_LIMIT ≡ 2 ^ 127)
