-- The line of a bound, with the statements that settle it.
use Rattle.std.specs.Prelude.{ℕ, ◌-◌, List, [], ◌∷◌, ◌++◌, codes, decimal, Option}
use Rattle.ror_table.specs.Table.{DecisionTable, id_of}
use Rattle.ror_show_kit.specs.Layout.{columns, room_behind, wrapped}
use Rattle.ror_show_text_relation.specs.ArrowText.{carrying_words}
use Rattle.ror_show_find_reasons.specs.declared.bounds.Side.{Side}
use Rattle.ror_show_find_reasons.specs.declared.bounds.Side.TheVariants.{Below, Above}

abbrev pub side_words : Side → List ℕ
side_words Below = codes " not below "
side_words Above = codes " not above "

-- the class beyond which it isn't
abbrev pub lead_word : Side → ℕ → List ℕ
lead_word side class = side_words side ++ decimal class ++ 58 ∷ []

abbrev pub bound_words : Side → ℕ → Option (List ℕ) → List (List ℕ)
bound_words side class numbers = lead_word side class ∷ carrying_words numbers

abbrev pub name_head : DecisionTable → ℕ → List ℕ
name_head t a = codes "     " ++ id_of t a

abbrev pub bound_line : DecisionTable → ℕ → Side → ℕ → Option (List ℕ) → List ℕ
bound_line t a side class numbers = name_head t a
    ++ wrapped 8 (room_behind 5 - columns (id_of t a)) (bound_words side class numbers) ++ 10 ∷ []
