-- What the answers of one judge say.
use Rattle.std.specs.Prelude.{ℕ, ◌+◌, ◌*◌, ◌==◌, nat_lt, List, [], length, map, slice_get, if◌then◌else◌}
use Rattle.std.specs.List.{range_with_len}
use Rattle.std.specs.Option.{option_map_or}
use Rattle.ror_statement.specs.declared.statement.Statement.{Statement}
use Rattle.ror_proof.specs.declared.answer.Answer.{Answer}
use Rattle.ror_group.specs.declared.entry.Entry.{Entry}
use Rattle.ror_show_find_relation.specs.declared.pair.PairSaid.{PairSaid}
use Rattle.ror_show_find_relation.specs.declared.cell.Cell.{Cell}
use Rattle.ror_show_find_relation.specs.declared.cell.Cell.TheVariants as cells
use Rattle.ror_show_find_relation.specs.Said.{necessary_by, possible_by, place_of_pair}
use Rattle.ror_show_find_relation.specs.Cells.{cell_of}
use Rattle.ror_show_find_relation.specs.Rows.{cell_in, contradictory_pairs}
use Rattle.ror_show_find_group.specs.declared.judge.JudgeFound.{JudgeFound}
use Rattle.ror_show_find_group.specs.Grounds.{GroupGround}

-- the answers of the entry at a place, none past the last one
abbrev pub answers_at : List Entry → ℕ → List Answer
answers_at entries place = option_map_or (λ x. x.answers) (slice_get entries place) []

-- What the judge's answers to both questions on an ordered pair of different ones of so many alternatives say. An answer that is to another
-- question, or none, says nothing.
abbrev pub said_of_judge : ℕ → List Entry → ℕ → ℕ → ℕ → PairSaid
said_of_judge n entries judge a b = record {
  necessary = necessary_by a b (slice_get (answers_at entries (place_of_pair n a b)) (2 * judge));
  possible = possible_by a b (slice_get (answers_at entries (place_of_pair n a b)) (2 * judge + 1));
}

-- the cell of one alternative against another, as on the page of a relation
abbrev pub judge_cell : ℕ → List Entry → ℕ → ℕ → ℕ → Cell
judge_cell n entries judge a b = if a == b then cells.Itself
    else cell_of (said_of_judge n entries judge a b) (said_of_judge n entries judge b a)

abbrev pub judge_row : ℕ → List Entry → ℕ → ℕ → List Cell
judge_row n entries judge a = map (judge_cell n entries judge a) (range_with_len 0 n)

-- row by row
abbrev pub judge_rows : ℕ → List Entry → ℕ → List (List Cell)
judge_rows n entries judge = map (judge_row n entries judge) (range_with_len 0 n)

-- how many statements stand at the desk at a place, none past the last one
abbrev pub statements_at : List (List Statement) → ℕ → ℕ
statements_at lists judge = option_map_or length (slice_get lists judge) 0

-- the judge contradicts himself where a cell is without a function that agrees
abbrev pub judge_with : ℕ → ℕ → List (List Cell) → JudgeFound
judge_with n statements rows = record { statements = statements; contradicts = nat_lt 0 (contradictory_pairs rows n); rows = rows }

abbrev pub judge_at : GroupGround → ℕ → JudgeFound
judge_at g judge = judge_with (length g.table.alternatives) (statements_at g.lists judge)
    (judge_rows (length g.table.alternatives) g.entries judge)

-- each, in the order of the desks
abbrev pub judges_of : GroupGround → List JudgeFound
judges_of g = map (judge_at g) (range_with_len 0 (length g.lists))

abbrev pub cell_of_judge : JudgeFound → ℕ → ℕ → Cell
cell_of_judge judge a b = cell_in judge.rows a b
