-- The arrows of relations as graphs that `dot` draws.
use Rattle.std.specs.Prelude.{ℕ, ◌||◌, ◌==◌, List, [], ◌∷◌, ◌++◌, length, codes, decimal, slice_get, if◌then◌else◌}
use Rattle.std.specs.List.{flat_map, range_with_len}
use Rattle.std.specs.Option.{option_map_or}
use Rattle.ror_table.specs.Table.{DecisionTable, id_of}
use Rattle.ror_bench.specs.declared.kept.KeptLine.{KeptLine}
use Rattle.ror_show_ground.specs.Grounds.{Ground}
use Rattle.ror_show_find_reasons.specs.declared.pairs.RelationFound.{RelationFound}

-- a quotation mark and a backslash have a backslash before them
abbrev pub escaped : ℕ → List ℕ
escaped byte = if byte == 34 || byte == 92 then 92 ∷ byte ∷ [] else byte ∷ []

abbrev pub quoted : List ℕ → List ℕ
quoted name = 34 ∷ flat_map escaped name ++ 34 ∷ []

abbrev pub node : DecisionTable → ℕ → List ℕ
node t a = codes "  " ++ quoted (id_of t a) ++ codes ";\n"

abbrev pub arrow : DecisionTable → ℕ × ℕ → List ℕ
arrow t pair = codes "  " ++ quoted (id_of t pair.0) ++ codes " -> " ++ quoted (id_of t pair.1) ++ codes ";\n"

abbrev pub graph_head : ℕ → List ℕ
graph_head line = codes "digraph \"line " ++ decimal line ++ codes "\" {\n"

-- each alternative, and then each arrow
abbrev pub graph_body : DecisionTable → List (ℕ × ℕ) → List ℕ
graph_body t arrows = flat_map (node t) (range_with_len 0 (length t.alternatives)) ++ flat_map (arrow t) arrows ++ codes "}\n"

abbrev pub dot_text : DecisionTable → ℕ → List (ℕ × ℕ) → List ℕ
dot_text t line arrows = graph_head line ++ graph_body t arrows

-- that of a kept line
abbrev pub line_graph : Ground → List (ℕ × ℕ) → KeptLine → List ℕ
line_graph g arrows x = dot_text g.table x.block.line arrows

-- that of a relation that was found
abbrev pub relation_graph : Ground → RelationFound → List ℕ
relation_graph g f = option_map_or (line_graph g f.relation.arrows) (slice_get g.kept f.place) []
