-- What is known of relations as comma-separated values.
use Rattle.std.specs.Prelude.{ℕ, List, [], ◌∷◌, ◌++◌, length, codes, slice_get, if◌then◌else◌}
use Rattle.std.specs.List.{flat_map, range_with_len}
use Rattle.std.specs.Option.{option_map_or}
use Rattle.ror_table.specs.Table.{DecisionTable, id_of}
use Rattle.ror_bench.specs.declared.kept.KeptLine.{KeptLine}
use Rattle.ror_show_ground.specs.Grounds.{Ground}
use Rattle.ror_show_find_relation.specs.declared.cell.Cell.{Cell}
use Rattle.ror_show_find_relation.specs.Cells.{sign}
use Rattle.ror_show_find_relation.specs.Rows.{cell_in, is_over_at}
use Rattle.ror_show_find_reasons.specs.declared.pairs.RelationFound.{RelationFound}
use Rattle.ror_show_kit.specs.Fields.{field}
use Rattle.ror_show_forms.specs.Front.{line_front}

abbrev pub csv_head : List ℕ
csv_head = codes "line,desk,from,to,relation\n"

-- behind these bytes both alternatives and the sign of their cell
abbrev pub fields : DecisionTable → List ℕ → ℕ → ℕ → Cell → List ℕ
fields t front a b cell = front ++ 44 ∷ field (id_of t a) ++ 44 ∷ field (id_of t b) ++ 44 ∷ sign cell ∷ 10 ∷ []

abbrev pub csv_line : DecisionTable → List ℕ → List (List Cell) → ℕ → ℕ → List ℕ
csv_line t front rows a b = if is_over_at rows a b then fields t front a b (cell_in rows a b) else []

abbrev pub csv_lines : DecisionTable → List ℕ → List (List Cell) → ℕ → List ℕ
csv_lines t front rows a = flat_map (csv_line t front rows a) (range_with_len 0 (length t.alternatives))

-- a line for each ordered pair of different alternatives of which the first is at least as good by every function
abbrev pub csv_text : DecisionTable → List ℕ → List (List Cell) → List ℕ
csv_text t front rows = flat_map (csv_lines t front rows) (range_with_len 0 (length t.alternatives))

-- those of a kept line: its number and its desk stand in front
abbrev pub line_values : Ground → List (List Cell) → KeptLine → List ℕ
line_values g rows x = csv_text g.table (line_front g.session x) rows

-- those of a relation that was found
abbrev pub relation_values : Ground → RelationFound → List ℕ
relation_values g f = option_map_or (line_values g f.relation.rows) (slice_get g.kept f.place) []
