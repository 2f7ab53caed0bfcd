-- The classes of alternatives at the times that they were asked for, as comma-separated values.
use Rattle.std.specs.Prelude.{ℕ, ◌+◌, Bool, false, List, [], ◌∷◌, ◌++◌, codes, decimal, slice_get, slice_index_or, if◌then◌else◌}
use Rattle.std.specs.List.{flat_map, range_with_len}
use Rattle.std.specs.Option.{option_map_or}
use Rattle.ror_table.specs.Table.{id_of}
use Rattle.ror_bench.specs.declared.kept.KeptLine.{KeptLine}
use Rattle.ror_show_ground.specs.Grounds.{Ground}
use Rattle.ror_show_find_classes.specs.declared.findings.ClassLine.{ClassLine}
use Rattle.ror_show_find_classes.specs.declared.sign.Sign.TheVariants as signs
use Rattle.ror_show_find_classes.specs.Signs.{byte_of}
use Rattle.ror_show_kit.specs.Fields.{field}
use Rattle.ror_show_forms.specs.Front.{line_front}

abbrev pub csv_head : List ℕ
csv_head = codes "line,desk,alternative,class,sign,assigned\n"

abbrev pub assigned_word : Bool → List ℕ
assigned_word assigned = if assigned then codes ",assigned\n" else codes ",\n"

-- the number of the line, its desk and the alternative
abbrev pub class_front : Ground → KeptLine → ClassLine → List ℕ
class_front g x f = line_front g.session x ++ 44 ∷ field (id_of g.table f.row.alternative)

-- behind these bytes a class, its sign, and whether a statement assigns the alternative to it
abbrev pub class_value : List ℕ → ClassLine → ℕ → List ℕ
class_value front f h = front ++ 44 ∷ decimal (h + 1) ++ 44 ∷ byte_of f.row.settled (slice_index_or f.signs h signs.Unknown)
    ∷ assigned_word (slice_index_or f.assigned h false)

-- those of a kept line
abbrev pub line_values : Ground → ClassLine → KeptLine → List ℕ
line_values g f x = flat_map (class_value (class_front g x f) f) (range_with_len 0 g.table.classes)

-- those of a line that was found
abbrev pub class_values : Ground → ClassLine → List ℕ
class_values g f = option_map_or (line_values g f) (slice_get g.kept f.place) []
