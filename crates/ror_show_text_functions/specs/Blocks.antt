-- A value function in lines: the value of all best levels, and for each criterion its weight and the value of each run of levels.
use Rattle.std.specs.Prelude.{ℕ, ◌-◌, List, [], ◌∷◌, ◌++◌, length, codes, decimal, if◌then◌else◌}
use Rattle.std.specs.List.{flat_map, range_with_len}
use Rattle.ror_table.specs.Table.{DecisionTable, criterion_id_of, steps}
use Rattle.ror_value.specs.Value.{Normalised}
use Rattle.ror_show_kit.specs.Layout.{columns, spaces, set_left, room_behind, wrapped}
use Rattle.ror_show_find_proofs.specs.declared.share.Share.{Share}
use Rattle.ror_show_find_proofs.specs.Levels.{share_at, whole_of, weight_of, begins_run, last_of_run}
use Rattle.ror_show_text_functions.specs.Ranges.{range_text}
use Rattle.ror_show_text_functions.specs.ShareText.{rounded_text}

-- a label behind a margin, up to the 35th column where it has room
abbrev pub label_text : ℕ → List ℕ → List ℕ
label_text margin label = spaces margin ++ set_left (35 - margin) label

-- what the line has left behind it and a rounded share
abbrev pub room_after : ℕ → List ℕ → ℕ
room_after margin label = room_behind 42 - (columns label - (35 - margin))

-- a share, and the whole number that it is of; where the number has no room, it stands in a line below
abbrev pub share_text : ℕ → Share → List ℕ
share_text room s = 32 ∷ rounded_text s ++ wrapped 35 room ((32 ∷ decimal s.part) ∷ []) ++ 10 ∷ []

abbrev pub share_line : ℕ → List ℕ → Share → List ℕ
share_line margin label s = label_text margin label ++ share_text (room_after margin label) s

-- the line of the run that begins at a level, where one does
unfoldable pub run_text : DecisionTable → Normalised → ℕ → ℕ → List ℕ
run_text t f i r = if begins_run t f i r then share_line 7 (range_text t i r (last_of_run t f i r)) (share_at t f i r) else []

-- all levels, from the worst to the best
abbrev pub levels_text : DecisionTable → Normalised → ℕ → List ℕ
levels_text t f i = flat_map (run_text t f i) (range_with_len 0 (steps t i)) ++ run_text t f i (steps t i)

abbrev pub weight_label : DecisionTable → ℕ → List ℕ
weight_label t i = criterion_id_of t i ++ codes " weight"

-- the weight of a criterion, and its levels
unfoldable pub criterion_text : DecisionTable → Normalised → ℕ → List ℕ
criterion_text t f i = share_line 5 (weight_label t i) (weight_of t f i) ++ levels_text t f i

-- the value of all best levels
unfoldable pub whole_text : Normalised → List ℕ
whole_text f = share_line 5 (codes "all best levels") (whole_of f)

abbrev pub criteria_text : DecisionTable → Normalised → List ℕ
criteria_text t f = flat_map (criterion_text t f) (range_with_len 0 (length t.criteria))

abbrev pub block_text : DecisionTable → Normalised → List ℕ
block_text t f = whole_text f ++ criteria_text t f
