-- The desks of a session: their names, each once, in order of first appearance.
use Rattle.std.specs.Prelude.{ℕ, not, List, [], ◌∷◌, filter}
use Rattle.std.specs.List.{position_or_len}
use Rattle.std.specs.Str.{bytes_eq}

-- each name once, at its first place
abbrev pub first_appearances : List (List ℕ) → List (List ℕ)
first_appearances [] = []
first_appearances (name ∷ names) =
    name ∷ filter (λ other. not (bytes_eq name other)) (first_appearances names)

-- the place of the desk with this name, from 0; the number of desks where none has it
abbrev pub place_of : List (List ℕ) → List ℕ → ℕ
place_of desks name = position_or_len (λ desk. bytes_eq name desk) desks
