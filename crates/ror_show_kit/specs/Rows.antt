-- Lines of words, and rows of two columns.
use Rattle.std.specs.Prelude.{ℕ, ◌-◌, min, max, List, ◌++◌, codes, decimal}
use Rattle.ror_text.specs.SpacedLines.{spaced_words}
use Rattle.ror_show_kit.specs.Layout.{spaces, set_right, room_behind, room_left, wrapped}

-- the words of a line behind a margin, and what goes on in a line below
abbrev pub line_text : ℕ → List ℕ → List ℕ
line_text margin line = spaces margin ++ wrapped 9 (room_behind margin) (spaced_words line) ++ codes "\n"

-- what stands between two columns: the second begins at the 52nd column of the line, or behind a space
abbrev pub gap : ℕ → ℕ
gap room = max (min room 1) (room - 69)

-- the words of both columns, and what goes on in a line below
abbrev pub columns_text : ℕ → List ℕ → List ℕ → List ℕ
columns_text room first second =
    wrapped 9 room (spaced_words first) ++ spaces (gap (room_left 9 room (spaced_words first)))
    ++ wrapped 9 (room_left 9 room (spaced_words first) - gap (room_left 9 room (spaced_words first))) (spaced_words second)

abbrev pub row_text : ℕ → List ℕ → List ℕ → List ℕ
row_text n first second = set_right 6 (decimal n) ++ codes " " ++ columns_text (room_behind 7) first second ++ codes "\n"
