-- What stands in a cell of a group's matrix, by what the judges say who are heard.
use Rattle.std.specs.Prelude.{ℕ, ◌==◌, Bool, true, false, ◌&&◌, ◌||◌, List, [], map, slice_index_or, if◌then◌else◌}
use Rattle.std.specs.List.{range_with_len}
use Rattle.ror_show_find_group.specs.declared.judge.JudgeFound.{JudgeFound}
use Rattle.ror_show_find_group.specs.declared.votes.Mark.TheVariants as marks
use Rattle.ror_show_find_group.specs.declared.cell.GroupCell.{GroupCell}
use Rattle.ror_show_find_group.specs.declared.cell.GroupCell.TheVariants as cells
use Rattle.ror_show_find_group.specs.Votes.{some_vote, every_vote, heard_count}

-- the sign that stands for a cell
abbrev pub sign : GroupCell → ℕ
sign cells.Itself = 32
sign cells.AlwaysBetter = 78
sign cells.AtLeastAsGood = 110
sign cells.AlwaysEqual = 61
sign cells.Open = 46
sign cells.AtMostAsGood = 109
sign cells.NeverAsGood = 45
sign cells.SomeOver = 62
sign cells.SomeUnder = 60
sign cells.BothWays = 126
sign cells.Differ = 120
sign cells.Unknown = 63

-- the row is at least as good as the column for every judge
abbrev pub is_over : GroupCell → Bool
is_over cells.Itself = true
is_over cells.AlwaysBetter = true
is_over cells.AtLeastAsGood = true
is_over cells.AlwaysEqual = true
is_over _ = false

-- where every judge has the row at least as good
abbrev pub over_of : List JudgeFound → ℕ → ℕ → GroupCell
over_of judges a b = if every_vote marks.Better judges a b then cells.AlwaysBetter
    else (if every_vote marks.Under judges a b then cells.AlwaysEqual else cells.AtLeastAsGood)

-- where every judge has it at most as good, and not every one at least as good
abbrev pub under_of : List JudgeFound → ℕ → ℕ → GroupCell
under_of judges a b = if every_vote marks.Worse judges a b then cells.NeverAsGood else cells.AtMostAsGood

-- what holds by every function of one judge holds by none of another's
abbrev pub differ : List JudgeFound → ℕ → ℕ → Bool
differ judges a b = (some_vote marks.Better judges a b && some_vote marks.Under judges a b)
    || (some_vote marks.Worse judges a b && some_vote marks.Over judges a b)

abbrev pub either_way : Bool → Bool → GroupCell
either_way true true = cells.BothWays
either_way true false = cells.SomeOver
either_way false true = cells.SomeUnder
either_way false false = cells.Unknown

-- where they don't all say the same
abbrev pub divided : List JudgeFound → ℕ → ℕ → GroupCell
divided judges a b = if differ judges a b then cells.Differ
    else either_way (some_vote marks.Over judges a b) (some_vote marks.Under judges a b)

-- no judge is heard, or some one says nothing of the two
abbrev pub says_nothing : List JudgeFound → ℕ → ℕ → Bool
says_nothing judges a b = heard_count judges == 0 || some_vote marks.Unsaid judges a b

-- of two different alternatives
abbrev pub cell_by : List JudgeFound → ℕ → ℕ → GroupCell
cell_by judges a b = if says_nothing judges a b then cells.Unknown
    else (if every_vote marks.Over judges a b then over_of judges a b
    else (if every_vote marks.Under judges a b then under_of judges a b
    else (if every_vote marks.Open judges a b then cells.Open else divided judges a b)))

abbrev pub group_cell : List JudgeFound → ℕ → ℕ → GroupCell
group_cell judges a b = if a == b then cells.Itself else cell_by judges a b

abbrev pub group_row : List JudgeFound → ℕ → ℕ → List GroupCell
group_row judges n a = map (group_cell judges a) (range_with_len 0 n)

-- row by row
abbrev pub group_rows : List JudgeFound → ℕ → List (List GroupCell)
group_rows judges n = map (group_row judges n) (range_with_len 0 n)

-- the cell of a row and a column; past the last one it says nothing
abbrev pub group_cell_in : List (List GroupCell) → ℕ → ℕ → GroupCell
group_cell_in rows a b = slice_index_or (slice_index_or rows a []) b cells.Unknown
