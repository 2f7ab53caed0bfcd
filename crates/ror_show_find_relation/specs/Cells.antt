-- What stands in the cell of a row and a column, by what is said of the two alternatives.
use Rattle.std.specs.Prelude.{ℕ, ◌==◌, Bool, true, false, ◌||◌, List, map, if◌then◌else◌}
use Rattle.std.specs.List.{range_with_len}
use Rattle.ror_proof.specs.declared.answer.Answer.{Answer}
use Rattle.ror_show_ground.specs.declared.said.Said.{Said}
use Rattle.ror_show_ground.specs.declared.said.Said.TheVariants.{Yes, No, Contradiction}
use Rattle.ror_show_find_relation.specs.declared.pair.PairSaid.{PairSaid}
use Rattle.ror_show_find_relation.specs.declared.cell.Cell.{Cell}
use Rattle.ror_show_find_relation.specs.declared.cell.Cell.TheVariants as cells
use Rattle.ror_show_find_relation.specs.Said.{said_of_pair}

-- the sign that stands for a cell
abbrev pub sign : Cell → ℕ
sign cells.Itself = 32
sign cells.AlwaysBetter = 78
sign cells.AtLeastAsGood = 110
sign cells.AlwaysEqual = 61
sign cells.Open = 46
sign cells.AtMostAsGood = 109
sign cells.NeverAsGood = 45
sign cells.Contradiction = 33
sign cells.Unknown = 63

abbrev pub is_contradiction : Said → Bool
is_contradiction Contradiction = true
is_contradiction _ = false

abbrev pub has_contradiction : PairSaid → Bool
has_contradiction s = is_contradiction s.necessary || is_contradiction s.possible

-- Of two alternatives the one is necessarily at least as good as the other, of which this is said: whether it is necessarily,
-- and whether it is possibly, at least as good as the one. The cell is the strict one where it isn't even possibly, and the weak
-- one where it is possibly and not necessarily.
abbrev pub better_by : Cell → Cell → PairSaid → Cell
better_by strict weak back = by back.necessary back.possible
  where
    by : Said → Said → Cell
    by Yes _ = cells.Unknown
    by _ No = strict
    by No Yes = weak
    by _ _ = cells.Unknown

-- where no answer is a contradiction
abbrev pub cell_of_necessary : PairSaid → PairSaid → Said → Said → Cell
cell_of_necessary there back Yes Yes = cells.AlwaysEqual
cell_of_necessary there back No No = cells.Open
cell_of_necessary there back Yes _ = better_by cells.AlwaysBetter cells.AtLeastAsGood back
cell_of_necessary there back _ Yes = better_by cells.NeverAsGood cells.AtMostAsGood there
cell_of_necessary there back _ _ = cells.Unknown

-- the cell of a row against a column, by what is said of the row over the column and back
abbrev pub cell_of : PairSaid → PairSaid → Cell
cell_of there back = if has_contradiction there || has_contradiction back then cells.Contradiction
    else cell_of_necessary there back there.necessary back.necessary

-- the cell of one alternative against another, by the answers to all questions on a relation of so many
abbrev pub cell_at : ℕ → List Answer → ℕ → ℕ → Cell
cell_at n xs a b = if a == b then cells.Itself else cell_of (said_of_pair n xs a b) (said_of_pair n xs b a)

abbrev pub cells_from : ℕ → List Answer → ℕ → List Cell
cells_from n xs a = map (cell_at n xs a) (range_with_len 0 n)

-- row by row
abbrev pub cell_rows : ℕ → List Answer → List (List Cell)
cell_rows n xs = map (cells_from n xs) (range_with_len 0 n)

-- ---- what a cell says

-- the row is at least as good as the column by every function
abbrev pub is_over : Cell → Bool
is_over cells.Itself = true
is_over cells.AlwaysBetter = true
is_over cells.AtLeastAsGood = true
is_over cells.AlwaysEqual = true
is_over _ = false

-- the same, and the row is another alternative than the column
abbrev pub is_over_another : Cell → Bool
is_over_another cells.AlwaysBetter = true
is_over_another cells.AtLeastAsGood = true
is_over_another cells.AlwaysEqual = true
is_over_another _ = false

abbrev pub is_open : Cell → Bool
is_open cells.Open = true
is_open _ = false

-- how the column stands to the row, by how the row stands to the column
abbrev pub mirror : Cell → Cell
mirror cells.AlwaysBetter = cells.NeverAsGood
mirror cells.AtLeastAsGood = cells.AtMostAsGood
mirror cells.AtMostAsGood = cells.AtLeastAsGood
mirror cells.NeverAsGood = cells.AlwaysBetter
mirror cells.Itself = cells.Itself
mirror cells.AlwaysEqual = cells.AlwaysEqual
mirror cells.Open = cells.Open
mirror cells.Contradiction = cells.Contradiction
mirror cells.Unknown = cells.Unknown
