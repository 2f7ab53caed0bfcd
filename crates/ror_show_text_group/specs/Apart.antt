-- Where judges differ, and what one says alone.
use Rattle.std.specs.Prelude.{ℕ, ◌-◌, ◌==◌, nat_lt, Bool, List, [], ◌∷◌, ◌++◌, length, codes, slice_get, slice_index_or, if◌then◌else◌}
use Rattle.std.specs.List.{flat_map, list_all, range_with_len}
use Rattle.std.specs.Option.{option_map_or}
use Rattle.ror_table.specs.Table.{DecisionTable, id_of}
use Rattle.ror_show_kit.specs.declared.part.Part.{Part}
use Rattle.ror_show_kit.specs.Layout.{spaces, set_left}
use Rattle.ror_show_kit.specs.Parts.{widest, part_at, is_in, number_text}
use Rattle.ror_show_find_relation.specs.declared.cell.Cell.{Cell}
use Rattle.ror_show_find_relation.specs.declared.cell.Cell.TheVariants as cells
use Rattle.ror_show_find_relation.specs.Cells.{sign}
use Rattle.ror_show_find_group.specs.declared.judge.JudgeFound.{JudgeFound}
use Rattle.ror_show_find_group.specs.Judges.{cell_of_judge}
use Rattle.ror_show_text_relation.specs.Text.{pairs_below}
use Rattle.ror_show_text_group.specs.Judges.{label}

-- ---- the pairs on which they differ

abbrev pub differing_head : List ℕ
differing_head = codes "\n  pairs on which it is proved that judges differ, with what each judge says of the first against the second:\n  the signs are those above, for this judge alone, and ! where no value function agrees\n"

-- what a line has for one id of so many columns and cells, behind another id: 110 columns for all
abbrev pub room_for : ℕ → ℕ
room_for width = 110 - width

abbrev pub part_of : ℕ → ℕ → Part
part_of width place = part_at (room_for width) width place

abbrev pub margin : ℕ → List ℕ
margin width = codes "\n      " ++ spaces width ++ spaces width

-- the numbers of the judges
abbrev pub numbers_text : Part → ℕ → List ℕ
numbers_text part judges = margin part.width ++ flat_map (number_text part) (range_with_len 0 judges) ++ codes "\n"

abbrev pub ids_text : DecisionTable → ℕ → ℕ × ℕ → List ℕ
ids_text t width pair = codes "     " ++ set_left width (id_of t pair.0) ++ codes " " ++ set_left width (id_of t pair.1)

-- what the judge at a place says of the pair; past the last one nothing
abbrev pub vote_at : List JudgeFound → ℕ → ℕ × ℕ → Cell
vote_at judges k pair = option_map_or (λ judge. cell_of_judge judge pair.0 pair.1) (slice_get judges k) cells.Unknown

abbrev pub vote_text : List JudgeFound → Part → ℕ × ℕ → ℕ → List ℕ
vote_text judges part pair k = if is_in part k then 32 ∷ 32 ∷ 32 ∷ sign (vote_at judges k pair) ∷ [] else []

abbrev pub row_text : DecisionTable → List JudgeFound → Part → ℕ × ℕ → List ℕ
row_text t judges part pair = ids_text t part.width pair
    ++ flat_map (vote_text judges part pair) (range_with_len 0 (length judges)) ++ codes "\n"

abbrev pub part_text : DecisionTable → List JudgeFound → List (ℕ × ℕ) → Part → List ℕ
part_text t judges pairs part = numbers_text part (length judges) ++ flat_map (row_text t judges part) pairs

-- the part at a place, where it has columns
abbrev pub part_text_at : DecisionTable → List JudgeFound → List (ℕ × ℕ) → ℕ → ℕ → List ℕ
part_text_at t judges pairs width place = if nat_lt (part_of width place).first (length judges)
    then part_text t judges pairs (part_of width place) else []

abbrev pub parts_text : DecisionTable → List JudgeFound → List (ℕ × ℕ) → List ℕ
parts_text t judges pairs =
    flat_map (part_text_at t judges pairs (widest t (length t.alternatives))) (range_with_len 0 (length judges))

abbrev pub listed_text : DecisionTable → List JudgeFound → List (ℕ × ℕ) → List ℕ
listed_text t judges pairs = if length pairs == 0 then codes "     none\n" else parts_text t judges pairs

abbrev pub differing_text : DecisionTable → List JudgeFound → List (ℕ × ℕ) → List ℕ
differing_text t judges pairs = differing_head ++ listed_text t judges pairs

-- ---- what one judge says alone

abbrev pub alone_head : List ℕ
alone_head = codes "\n  what one judge says alone (at least as good for this judge, and for no other)\n"

abbrev pub is_nothing : List (ℕ × ℕ) → Bool
is_nothing pairs = length pairs == 0

abbrev pub none_text : List (List (ℕ × ℕ)) → List ℕ
none_text alone = if list_all is_nothing alone then codes "     none\n" else []

-- the name, and below it the pairs, by where they begin
abbrev pub of_judge : DecisionTable → List ℕ → List (ℕ × ℕ) → List ℕ
of_judge t name pairs = codes "   " ++ label name ++ pairs_below t (codes "\n") pairs

abbrev pub if_some : DecisionTable → List ℕ → List (ℕ × ℕ) → List ℕ
if_some t name pairs = if length pairs == 0 then [] else of_judge t name pairs

abbrev pub alone_at : DecisionTable → List (List ℕ) → List (List (ℕ × ℕ)) → ℕ → List ℕ
alone_at t desks alone k = option_map_or (if_some t (slice_index_or desks k [])) (slice_get alone k) []

abbrev pub alone_text : DecisionTable → List (List ℕ) → List (List (ℕ × ℕ)) → List ℕ
alone_text t desks alone = alone_head ++ none_text alone ++ flat_map (alone_at t desks alone) (range_with_len 0 (length alone))
