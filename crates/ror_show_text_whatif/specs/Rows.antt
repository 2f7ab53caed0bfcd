-- The rows of a table: of each statement, how much hangs on it.
use Rattle.std.specs.Prelude.{ℕ, zero, suc, nat_lt, List, length, map, slice_get, Option, Some, None, if◌then◌else◌}
use Rattle.std.specs.Option.{option_map_or}
use Rattle.ror_show_find_whatif.specs.declared.agreement.Agreement.{Agreement}
use Rattle.ror_show_find_whatif.specs.declared.cases.Case.{Case}
use Rattle.ror_show_find_whatif.specs.declared.outcome.Outcome.{Outcome}
use Rattle.ror_show_find_whatif.specs.declared.whatif.WhatIf.{WhatIf}
use Rattle.ror_show_text_whatif.specs.declared.rows.Row.{Row}
use Rattle.ror_show_text_whatif.specs.declared.told.Remark.TheVariants.{NoContrary}
use Rattle.ror_show_text_whatif.specs.declared.told.Told.{Told}
use Rattle.ror_show_text_whatif.specs.declared.told.Told.TheVariants as tells
use Rattle.ror_show_text_whatif.specs.declared.ways.Way.{Way}
use Rattle.ror_show_text_whatif.specs.Told.{counts_of, remark_for, told_by, first_of}
use Rattle.ror_show_text_whatif.specs.Ways.{outcome_in, said_in}

-- by what a line's questions come to, where the way is open to the statement
abbrev pub told_of : Way → Agreement → Option Outcome → Told
told_of way now (Some o) = told_by (remark_for way now o.agreement) (counts_of o.effect)
told_of way now None = tells.Remark NoContrary

abbrev pub row_of : Way → Agreement → Case → Row
row_of way now c = record {
  number = c.stated.number;
  said = said_in way c;
  told = told_of way now (outcome_in way c);
}

abbrev pub rows_over : Way → Agreement → List Case → List Row
rows_over way now cases = map (row_of way now) cases

-- of a line that asks for the relation, in the order of the statements
abbrev pub relation_rows : Way → WhatIf → List Row
relation_rows way f = rows_over way f.agreement f.cases

-- ---- their order

-- the count by which the row at a place is ordered
abbrev pub first_at : List Row → ℕ → ℕ
first_at rows k = option_map_or (λ row. first_of row.told) (slice_get rows k) 0

-- the greatest of those before a place
abbrev pub most_below : List Row → ℕ → ℕ
most_below rows zero = 0
most_below rows (suc k) = if nat_lt (most_below rows k) (first_at rows k) then first_at rows k else most_below rows k

abbrev pub most_in : List Row → ℕ
most_in rows = most_below rows (length rows)
