-- The statements that come with a table.
use Rattle.std.specs.Prelude.{List, map, slice_get, Option, Some, None, Result, Ok, Err, nat_lt}
use Rattle.ror_text.specs.Reading.{◌>>=◌, refuse}
use Rattle.ror_statement.specs.declared.row_number.TheConstants.{MOST_STATEMENTS, MOST_ROWS}
use Rattle.ror_statement.specs.declared.statement.Statement.{Statement}
use Rattle.ror_statement.specs.RowNumbers.{row_count}
use Rattle.ror_table.specs.declared.fault.What.TheVariants as whats
use Rattle.ror_table.specs.declared.fault.TableFault.{TableFault}
use Rattle.ror_table.specs.declared.fault.TableKind.TheVariants.{TooMany}
use Rattle.ror_table.specs.Plain.{at_line}
use Rattle.ror_xmcda.specs.declared.stated.Stated.{Stated}

abbrev pub statements : List Stated → List Statement
statements stated = map (λ s. s.statement) stated

abbrev pub refuse_more : Option Stated → Result (Unit {0}) TableFault
refuse_more None = Ok tt
refuse_more (Some s) = Err (at_line s.line (TooMany whats.Statements))

-- at most 200 statements, or else the fault is at the next one, and at most 2,000 rows of them
unfoldable pub opening_of : List Stated → Result (List Statement) TableFault
opening_of stated = do
  _ ← refuse_more (slice_get stated MOST_STATEMENTS)
  _ ← refuse (at_line 0 (TooMany whats.Rows)) (nat_lt MOST_ROWS (row_count (statements stated)))
  Ok (statements stated)
