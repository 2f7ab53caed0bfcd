-- How much hangs on each statement: a table, the most first.
use Rattle.std.specs.Prelude.{ℕ, ◌-◌, ◌==◌, List, [], ◌∷◌, ◌++◌, codes, decimal, if◌then◌else◌}
use Rattle.std.specs.List.{flat_map, range_with_len}
use Rattle.ror_table.specs.Table.{DecisionTable}
use Rattle.ror_show_kit.specs.Layout.{set_left, set_right}
use Rattle.ror_show_kit.specs.Spoken.{statement_text}
use Rattle.ror_show_find_whatif.specs.declared.outcome.Asks.{Asks}
use Rattle.ror_show_find_whatif.specs.declared.outcome.Asks.TheVariants.{Relation, Classes}
use Rattle.ror_show_text_whatif.specs.declared.rows.Row.{Row}
use Rattle.ror_show_text_whatif.specs.declared.told.Counts.{Counts}
use Rattle.ror_show_text_whatif.specs.declared.told.Remark.{Remark}
use Rattle.ror_show_text_whatif.specs.declared.told.Remark.TheVariants.{NoContrary, Ends, Stays, NotKnown, NoFunction, Excluded}
use Rattle.ror_show_text_whatif.specs.declared.told.Told.{Told}
use Rattle.ror_show_text_whatif.specs.declared.told.Told.TheVariants as tells
use Rattle.ror_show_text_whatif.specs.declared.ways.Way.{Way}
use Rattle.ror_show_text_whatif.specs.declared.ways.Way.TheVariants.{Withdrawn, Contrary}
use Rattle.ror_show_text_whatif.specs.Rows.{most_in}
use Rattle.ror_show_text_whatif.specs.Told.{first_of}

-- what stands above the table
abbrev pub title : Way → List ℕ
title Withdrawn = codes "\n  if one statement is withdrawn, and all others stand\n"
title Contrary = codes "\n  if the contrary of one statement is said in its place, and all others stand\n  (excluded by the others: what was said follows from them)\n"

abbrev pub columns_text : Asks → List ℕ
columns_text Relation = codes "     N      lost    weaker       won  stronger   unknown\n"
columns_text Classes = codes "     N    opened    closed  loosened     bound   unknown\n"

abbrev pub count_text : ℕ → List ℕ
count_text n = set_right 10 (decimal n)

abbrev pub words_for : Remark → List ℕ
words_for NoContrary = codes "no statement is its contrary"
words_for Ends = codes "the contradiction ends"
words_for Stays = codes "the contradiction stays"
words_for NotKnown = codes "too wide to say if the contradiction ends"
words_for NoFunction = codes "no function agrees then"
words_for Excluded = codes "excluded by the others"

-- words take as many columns as counts
abbrev pub told_text : Told → List ℕ
told_text (tells.Counts n) = count_text n.first ++ count_text n.second ++ count_text n.third ++ count_text n.fourth ++ count_text n.unknown
told_text (tells.Remark remark) = codes "  " ++ set_left 48 (words_for remark)

-- the statement's number, how much hangs on it, and what is withdrawn or said in its place
abbrev pub row_text : DecisionTable → Row → List ℕ
row_text t row = set_right 6 (decimal row.number) ++ told_text row.told ++ codes "  " ++ statement_text t row.said ++ 10 ∷ []

-- the row, where it has this count
abbrev pub row_if : DecisionTable → ℕ → Row → List ℕ
row_if t count row = if first_of row.told == count then row_text t row else []

abbrev pub rows_with : DecisionTable → List Row → ℕ → List ℕ
rows_with t rows count = flat_map (row_if t count) rows

-- those whose count is so much below this one
abbrev pub rows_below : DecisionTable → List Row → ℕ → ℕ → List ℕ
rows_below t rows most k = rows_with t rows (most - k)

-- those with a count, from this one down
abbrev pub rows_above : DecisionTable → List Row → ℕ → List ℕ
rows_above t rows most = flat_map (rows_below t rows most) (range_with_len 0 most)

-- the most first, and those with one count in order
abbrev pub rows_text : DecisionTable → List Row → List ℕ
rows_text t rows = rows_above t rows (most_in rows) ++ rows_with t rows 0

abbrev pub table_text : DecisionTable → Asks → Way → List Row → List ℕ
table_text t asks way rows = title way ++ columns_text asks ++ rows_text t rows
