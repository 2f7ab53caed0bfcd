use Rattle.std.specs.Prelude.{ℕ, ◌+◌, ◌==◌, List, [], ◌∷◌, ◌++◌, length, map, codes, decimal, if◌then◌else◌}
use Rattle.ror_show_kit.specs.Layout.{room_behind, wrapped}

-- words and a number behind them
abbrev pub counted : List ℕ → ℕ → List ℕ
counted words n = words ++ decimal n

abbrev pub desk_text : List ℕ → List ℕ
desk_text desk = if length desk == 0 then [] else codes "  @" ++ desk

-- the number of a session's line, and its desk
abbrev pub line_text : ℕ → List ℕ → List ℕ
line_text line desk = codes "line " ++ decimal line ++ desk_text desk

-- the numbers of the statements that stand
abbrev pub numbers_text : List ℕ → List ℕ
numbers_text numbers = if length numbers == 0 then codes " none" else wrapped 15 (room_behind 15) (map decimal numbers)

abbrev pub statements_text : List ℕ → List ℕ
statements_text numbers = codes "  by statements" ++ numbers_text numbers ++ 10 ∷ []
