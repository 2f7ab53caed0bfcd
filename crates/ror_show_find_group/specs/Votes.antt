-- What some judge says, and what every one does, of those who are heard.
use Rattle.std.specs.Prelude.{ℕ, Bool, true, false, not, ◌&&◌, ◌||◌, List, count_by}
use Rattle.std.specs.List.{list_any, list_all}
use Rattle.ror_show_find_relation.specs.declared.cell.Cell.{Cell}
use Rattle.ror_show_find_relation.specs.declared.cell.Cell.TheVariants as cells
use Rattle.ror_show_find_relation.specs.Cells.{is_over_another, is_open}
use Rattle.ror_show_find_group.specs.declared.judge.JudgeFound.{JudgeFound}
use Rattle.ror_show_find_group.specs.declared.votes.Mark.{Mark}
use Rattle.ror_show_find_group.specs.declared.votes.Mark.TheVariants as marks
use Rattle.ror_show_find_group.specs.Judges.{cell_of_judge}

-- ---- what a cell says

abbrev pub is_under_another : Cell → Bool
is_under_another cells.NeverAsGood = true
is_under_another cells.AtMostAsGood = true
is_under_another cells.AlwaysEqual = true
is_under_another _ = false

abbrev pub is_better : Cell → Bool
is_better cells.AlwaysBetter = true
is_better _ = false

abbrev pub is_worse : Cell → Bool
is_worse cells.NeverAsGood = true
is_worse _ = false

-- nothing of two different alternatives
abbrev pub is_unsaid : Cell → Bool
is_unsaid cells.Itself = true
is_unsaid cells.Contradiction = true
is_unsaid cells.Unknown = true
is_unsaid _ = false

abbrev pub has : Mark → Cell → Bool
has marks.Over cell = is_over_another cell
has marks.Under cell = is_under_another cell
has marks.Better cell = is_better cell
has marks.Worse cell = is_worse cell
has marks.Open cell = is_open cell
has marks.Unsaid cell = is_unsaid cell

-- ---- of some judge who is heard, and of every one: of whom it isn't known that no function agrees with what the judge said

abbrev pub some_says : (Cell → Bool) → List JudgeFound → ℕ → ℕ → Bool
some_says f judges a b = list_any (λ judge. not judge.contradicts && f (cell_of_judge judge a b)) judges

abbrev pub every_says : (Cell → Bool) → List JudgeFound → ℕ → ℕ → Bool
every_says f judges a b = list_all (λ judge. judge.contradicts || f (cell_of_judge judge a b)) judges

abbrev pub some_vote : Mark → List JudgeFound → ℕ → ℕ → Bool
some_vote mark judges a b = some_says (has mark) judges a b

abbrev pub every_vote : Mark → List JudgeFound → ℕ → ℕ → Bool
every_vote mark judges a b = every_says (has mark) judges a b

-- how many of them say this
abbrev pub count_votes : Mark → List JudgeFound → ℕ → ℕ → ℕ
count_votes mark judges a b = count_by (λ judge. not judge.contradicts && has mark (cell_of_judge judge a b)) judges

abbrev pub heard_count : List JudgeFound → ℕ
heard_count judges = count_by (λ judge. not judge.contradicts) judges
