use Rattle.std.specs.Prelude.{ℕ, Bool, ◌||◌, ◌==◌, List, [], ◌∷◌, ◌++◌, if◌then◌else◌}
use Rattle.std.specs.List.{flat_map, list_any}

-- a comma, a quotation mark, or an end of a line
abbrev pub is_special : ℕ → Bool
is_special byte = byte == 44 || byte == 34 || byte == 10 || byte == 13

-- quotation marks are doubled
abbrev pub doubled : ℕ → List ℕ
doubled byte = if byte == 34 then 34 ∷ 34 ∷ [] else byte ∷ []

-- between quotation marks where it has something special
abbrev pub field : List ℕ → List ℕ
field word = if list_any is_special word then 34 ∷ flat_map doubled word ++ 34 ∷ [] else word
