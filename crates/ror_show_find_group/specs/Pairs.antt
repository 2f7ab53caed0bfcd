-- The pairs on which judges differ, and those of which one judge alone concludes something.
use Rattle.std.specs.Prelude.{ℕ, ◌==◌, nat_lt, Bool, true, false, not, ◌&&◌, List, [], ◌∷◌, map, if◌then◌else◌}
use Rattle.std.specs.List.{flat_map, range_with_len}
use Rattle.ror_show_find_group.specs.declared.judge.JudgeFound.{JudgeFound}
use Rattle.ror_show_find_group.specs.declared.votes.Mark.TheVariants as marks
use Rattle.ror_show_find_group.specs.declared.cell.GroupCell.{GroupCell}
use Rattle.ror_show_find_group.specs.declared.cell.GroupCell.TheVariants as cells
use Rattle.ror_show_find_group.specs.Judges.{cell_of_judge}
use Rattle.ror_show_find_group.specs.Votes.{has, some_vote, count_votes, heard_count}
use Rattle.ror_show_find_group.specs.Cells.{group_cell_in}

-- ---- on which judges differ

abbrev pub is_differ : GroupCell → Bool
is_differ cells.Differ = true
is_differ _ = false

-- the pair, with the first alternative before the second, where they do
abbrev pub differing_pair : List (List GroupCell) → ℕ → ℕ → List (ℕ × ℕ)
differing_pair rows a b = if nat_lt a b && is_differ (group_cell_in rows a b) then (a, b) ∷ [] else []

abbrev pub differing_from : List (List GroupCell) → ℕ → ℕ → List (ℕ × ℕ)
differing_from rows n a = flat_map (differing_pair rows a) (range_with_len 0 n)

-- of so many alternatives, in order of the first, and then of the second
abbrev pub differing_pairs : List (List GroupCell) → ℕ → List (ℕ × ℕ)
differing_pairs rows n = flat_map (differing_from rows n) (range_with_len 0 n)

-- ---- of one judge alone

-- the judge is heard, and has the first at least as good as the second by every function that agrees
abbrev pub concludes : JudgeFound → ℕ → ℕ → Bool
concludes judge a b = not judge.contradicts && has marks.Over (cell_of_judge judge a b)

-- one of several judges who are heard does, and of each of the others it is known how the two stand
abbrev pub is_of_one : List JudgeFound → ℕ → ℕ → Bool
is_of_one judges a b = nat_lt 1 (heard_count judges) && (count_votes marks.Over judges a b == 1)
    && not (some_vote marks.Unsaid judges a b)

abbrev pub is_alone : List JudgeFound → JudgeFound → ℕ → ℕ → Bool
is_alone judges judge a b = concludes judge a b && is_of_one judges a b

-- the pair, where this one of the judges is alone
abbrev pub alone_pair : List JudgeFound → JudgeFound → ℕ → ℕ → List (ℕ × ℕ)
alone_pair judges judge a b = if is_alone judges judge a b then (a, b) ∷ [] else []

abbrev pub alone_from : List JudgeFound → ℕ → JudgeFound → ℕ → List (ℕ × ℕ)
alone_from judges n judge a = flat_map (alone_pair judges judge a) (range_with_len 0 n)

abbrev pub alone_of : List JudgeFound → ℕ → JudgeFound → List (ℕ × ℕ)
alone_of judges n judge = flat_map (alone_from judges n judge) (range_with_len 0 n)

-- one list for each judge
abbrev pub alone_pairs : List JudgeFound → ℕ → List (List (ℕ × ℕ))
alone_pairs judges n = map (alone_of judges n) judges
