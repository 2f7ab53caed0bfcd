-- What changed from one relation of a desk to the next, as comma-separated values.
use Rattle.std.specs.Prelude.{ℕ, Bool, ◌||◌, List, [], ◌∷◌, ◌++◌, length, codes, decimal, slice_get, if◌then◌else◌}
use Rattle.std.specs.List.{flat_map}
use Rattle.std.specs.Option.{option_map_or}
use Rattle.ror_table.specs.Table.{DecisionTable, id_of}
use Rattle.ror_session.specs.declared.session.Session.{Session}
use Rattle.ror_bench.specs.declared.kept.KeptLine.{KeptLine}
use Rattle.ror_show_ground.specs.Grounds.{Ground}
use Rattle.ror_show_find_relation.specs.Rows.{is_contradictory}
use Rattle.ror_show_find_relation.specs.declared.change.Change.{Change}
use Rattle.ror_show_find_relation.specs.declared.change.Change.TheVariants.{TurnedRound, NoLonger, Stayed, New}
use Rattle.ror_show_find_relation.specs.declared.differences.Differences.{Differences}
use Rattle.ror_show_find_reasons.specs.declared.pairs.ChangeFound.{ChangeFound}
use Rattle.ror_show_kit.specs.Fields.{field}
use Rattle.ror_show_forms.specs.Front.{line_front}

abbrev pub csv_head : List ℕ
csv_head = codes "line before,line now,desk,change,from,to\n"

abbrev pub change_word : Change → List ℕ
change_word TurnedRound = codes ",turned round"
change_word NoLonger = codes ",no longer"
change_word Stayed = codes ",stayed"
change_word New = codes ",new"

-- the numbers of both lines, and their desk
abbrev pub csv_lines : Session → KeptLine → KeptLine → List ℕ
csv_lines s x y = decimal x.block.line ++ 44 ∷ line_front s y

abbrev pub csv_pair : DecisionTable → ℕ × ℕ → List ℕ
csv_pair t pair = 44 ∷ field (id_of t pair.0) ++ 44 ∷ field (id_of t pair.1) ++ 10 ∷ []

-- behind what it begins with, a change and a pair of it
abbrev pub csv_line : DecisionTable → List ℕ → Change → ℕ × ℕ → List ℕ
csv_line t front change pair = front ++ change_word change ++ csv_pair t pair

abbrev pub csv_change : DecisionTable → List ℕ → Change → List (ℕ × ℕ) → List ℕ
csv_change t front change pairs = flat_map (csv_line t front change) pairs

-- the pairs of each change
abbrev pub differences_values : DecisionTable → List ℕ → Differences → List ℕ
differences_values t front f = csv_change t front TurnedRound f.turned ++ csv_change t front NoLonger f.no_longer
    ++ csv_change t front Stayed f.stayed ++ csv_change t front New f.new

-- those of two kept lines
abbrev pub values_between : Ground → Differences → KeptLine → KeptLine → List ℕ
values_between g f x y = differences_values g.table (csv_lines g.session x y) f

abbrev pub compared_values : Ground → ChangeFound → List ℕ
compared_values g f = option_map_or
    (λ x. option_map_or (values_between g f.pairs x) (slice_get g.kept f.now) [])
    (slice_get g.kept f.before) []

-- at one of both lines no function agrees, so there is nothing to compare
abbrev pub has_nothing : ℕ → ChangeFound → Bool
has_nothing n f = is_contradictory f.first.rows n || is_contradictory f.second.rows n

-- those of a change that was found
abbrev pub change_values : Ground → ChangeFound → List ℕ
change_values g f = if has_nothing (length g.table.alternatives) f then [] else compared_values g f
