-- Lines of a text with one spelling: words joined by single spaces, and one line feed.
use Rattle.std.specs.Prelude.{ℕ, ◌+◌, Bool, not, ◌||◌, List, [], ◌∷◌, ◌++◌, take, drop, position, Option, ◌==◌}
use Rattle.std.specs.List.{slice_split, list_all, join_with_byte}
use Rattle.std.specs.Option.{option_map}
use Rattle.ror_text.specs.Lines.{is_line_end}

-- the bytes before the first line end, and those after it
abbrev pub split_line : List ℕ → Option (List ℕ × List ℕ)
split_line bytes =
    option_map (λ place. (take place bytes, drop (place + 1) bytes)) (position is_line_end bytes)

-- the words of a line, empty ones too
abbrev pub spaced_words : List ℕ → List (List ℕ)
spaced_words line = slice_split (λ byte. byte == 32) line

abbrev pub join_words : List (List ℕ) → List ℕ
join_words ws = join_with_byte 32 ws

-- no byte is a space or a line feed, so that a line of such words is cut as it was joined
abbrev pub is_word : List ℕ → Bool
is_word word = list_all (λ byte. not (byte == 32 || byte == 10)) word

abbrev pub are_words : List (List ℕ) → Bool
are_words ws = list_all is_word ws

-- a line: its words with single spaces between them, and a line feed
unfoldable pub line_text : List (List ℕ) → List ℕ
line_text ws = join_words ws ++ 10 ∷ []
