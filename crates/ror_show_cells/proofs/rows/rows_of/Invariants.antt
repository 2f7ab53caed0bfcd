use Rattle.std.proofs.Common.{◌≡◌, ◌+◌, ◌<◌, ◌≤◌, ℕ, List, Some, length, map}
use Rattle.csv.specs.Reading.{Reached, Ready, source_of, strip_bom}
use Rattle.csv.specs.declared.parser.State.TheVariants as st
use Rattle.csv.specs.declared.reader.Trim.TheVariants as trim
use Rattle.ror_show_cells.specs.declared.spreadsheet.TheConstants.{MOST_ROWS}
use Rattle.ror_show_cells.specs.Rows.{Cells, config_of, trimmed_cells}
use Rattle.ror_show_cells.proofs.rows.rows_of.Given as goal

abbrev pub invariant-loop-next : goal.invariant-loop-next
invariant-loop-next l = (l.next-iterator.rdr.trim ≡ trim.None) × Ready l.next-iterator.rdr × (0 < l.next-iterator.left) × (l.next-iterator.rdr.config ≡ config_of l.fn.separator)
    × (y : List ℕ) × (source_of (λ s. Some s.now) l.next-iterator.rdr ≡ Some y)
    × (raw : List Cells) × (l.rows.items ≡ map trimmed_cells raw) × (length raw ≤ MOST_ROWS + 1)
    × Reached (config_of l.fn.separator) st.StartRecord (strip_bom l.fn.bytes) raw l.next-iterator.rdr.state y
