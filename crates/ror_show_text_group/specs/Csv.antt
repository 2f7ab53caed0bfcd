-- What judges say as comma-separated values.
use Rattle.std.specs.Prelude.{ℕ, ◌==◌, List, [], ◌∷◌, ◌++◌, length, codes, slice_index_or, if◌then◌else◌}
use Rattle.std.specs.List.{flat_map, range_with_len}
use Rattle.ror_table.specs.Table.{DecisionTable, id_of}
use Rattle.ror_show_kit.specs.Fields.{field}
use Rattle.ror_show_find_relation.specs.Cells as relation
use Rattle.ror_show_find_group.specs.declared.judge.JudgeFound.{JudgeFound}
use Rattle.ror_show_find_group.specs.declared.page.GroupFound.{GroupFound}
use Rattle.ror_show_find_group.specs.Judges.{cell_of_judge}
use Rattle.ror_show_find_group.specs.Cells.{sign, group_cell_in}
use Rattle.ror_show_text_group.specs.Judges.{label}

-- the name of the desk at a place, behind a comma
abbrev pub name_field : List (List ℕ) → ℕ → List ℕ
name_field desks k = 44 ∷ field (label (slice_index_or desks k []))

-- the names of the values, of which there is one for each judge
abbrev pub csv_head : List (List ℕ) → ℕ → List ℕ
csv_head desks judges = codes "from,to,group" ++ flat_map (name_field desks) (range_with_len 0 judges) ++ codes "\n"

abbrev pub ids : DecisionTable → ℕ → ℕ → List ℕ
ids t a b = field (id_of t a) ++ (44 ∷ field (id_of t b)) ++ codes ","

-- the sign of a judge, behind a comma
abbrev pub vote : ℕ → ℕ → JudgeFound → List ℕ
vote a b judge = 44 ∷ relation.sign (cell_of_judge judge a b) ∷ []

-- the line of a pair of different alternatives
abbrev pub csv_line : DecisionTable → GroupFound → ℕ → ℕ → List ℕ
csv_line t found a b = if a == b then []
    else ids t a b ++ (sign (group_cell_in found.rows a b) ∷ []) ++ flat_map (vote a b) found.judges ++ codes "\n"

abbrev pub csv_lines : DecisionTable → GroupFound → ℕ → List ℕ
csv_lines t found a = flat_map (csv_line t found a) (range_with_len 0 (length t.alternatives))

abbrev pub csv_text : DecisionTable → List (List ℕ) → GroupFound → List ℕ
csv_text t desks found = csv_head desks (length found.judges)
    ++ flat_map (csv_lines t found) (range_with_len 0 (length t.alternatives))
