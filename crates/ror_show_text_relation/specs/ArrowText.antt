-- The line of an arrow, with the statements that carry it.
use Rattle.std.specs.Prelude.{ℕ, ◌-◌, ◌==◌, nat_eq, Bool, false, List, [], ◌∷◌, ◌++◌, codes, decimal, length, map, Option, Some, None, if◌then◌else◌}
use Rattle.std.specs.Cmp.Lexicographic.{pointwise}
use Rattle.ror_table.specs.Table.{DecisionTable, id_of}
use Rattle.ror_reason.specs.declared.reducts.Reason.{Reason}
use Rattle.ror_show_find_reasons.specs.Carrying.{numbers_of}
use Rattle.ror_show_kit.specs.Layout.{columns, room_behind, wrapped}
use Rattle.ror_show_text_relation.specs.Text.{from_head}

abbrev pub number_words : List ℕ → List (List ℕ)
number_words ns = if length ns == 0 then codes "none is needed" ∷ [] else map decimal ns

-- what carries the arrow
abbrev pub carrying_words : Option (List ℕ) → List (List ℕ)
carrying_words (Some ns) = number_words ns
carrying_words None = codes "too wide to say" ∷ []

-- ---- what carries that it is always better, behind spaces

-- the same statements
abbrev pub is_same : Option (List ℕ) → List ℕ → Bool
is_same (Some ms) ns = pointwise nat_eq ms ns
is_same None ns = false

abbrev pub by_words : Option (List ℕ) → List ℕ → List (List ℕ)
by_words carrying ns = if is_same carrying ns then codes "  always better by the same" ∷ [] else codes "  always better by" ∷ map decimal ns

abbrev pub known_words : Option (List ℕ) → List ℕ → List (List ℕ)
known_words carrying ns = if length ns == 0 then codes "  always better, none is needed" ∷ [] else by_words carrying ns

abbrev pub better_by : Option (List ℕ) → Option (List ℕ) → List (List ℕ)
better_by carrying (Some ns) = known_words carrying ns
better_by carrying None = codes "  always better, too wide to say by which" ∷ []

-- where an answer says that
abbrev pub better_words : Option (List ℕ) → Option Reason → List (List ℕ)
better_words carrying (Some reason) = better_by carrying (numbers_of reason)
better_words carrying None = []

-- ---- the line

-- what it leads to, with two spaces behind it
abbrev pub lead_word : DecisionTable → ℕ → List ℕ
lead_word t b = id_of t b ++ codes "  "

abbrev pub arrow_words : DecisionTable → ℕ → Option (List ℕ) → Option Reason → List (List ℕ)
arrow_words t b carrying better = lead_word t b ∷ carrying_words carrying ++ better_words carrying better

abbrev pub arrow_line : DecisionTable → ℕ × ℕ → Option (List ℕ) → Option Reason → List ℕ
arrow_line t arrow carrying better = from_head t arrow.0
    ++ wrapped 8 (room_behind 8 - columns (id_of t arrow.0)) (arrow_words t arrow.1 carrying better) ++ 10 ∷ []
