-- The laws of spreadsheets that the crate claims.
use Rattle.std.specs.Prelude.{◌≡◌, ℕ, ◌+◌, ◌-◌, ◌<◌, List, filter, length, Some, Ok}
use Rattle.std.specs.List.{AllZip, enumerate_from, range_with_len}
use Rattle.ror_text.specs.Lines.{word_at}
use Rattle.ror_table.specs.Plain.{plain_table}
use Rattle.ror_table.specs.Table.{Criterion, Alternative, performance_of}
use Rattle.ror_show_spreadsheet.specs.declared.importing.Imported.{Imported}
use Rattle.ror_show_cells.specs.declared.numbers.CellTest.TheVariants.{HasText}
use Rattle.ror_show_cells.specs.declared.numbers.Numerals.{Numerals}
use Rattle.ror_show_spreadsheet.specs.Import.{words_of, word_in, scale_of, before_of, body_of, imported_in, imported_of}
use Rattle.ror_show_spreadsheet.specs.Names.{column_id, row_id}
use Rattle.ror_show_cells.specs.Numbers.{any_cell, amount_in}
use Rattle.ror_show_spreadsheet.specs.Options.{Named}
use Rattle.ror_show_cells.specs.Rows.{Cells, row_at}
use Rattle.ror_show_cells.specs.Sheet.{Sheet}

-- what is written is read as the same table
abbrev pub TextsAreReadBack : Type 0
TextsAreReadBack = (o : Named) (bytes : List ℕ) (x : Imported) → imported_of o bytes ≡ Ok x → plain_table x.text ≡ Ok x.table

-- the criterion of the column at this place, from 0
pub record IsOfColumn (o : Named) (sheet : Sheet) (place : ℕ) (c : Criterion) : Type 0 where
  pub id : c.id ≡ column_id (place + 1) (word_at (row_at sheet.rows 0) place)
  pub scale : scale_of o (place + 1) (word_at (row_at sheet.rows 0) place) (word_in (words_of sheet.rows) place)
      ≡ Ok (record { direction = c.direction; linear = c.linear })

-- the alternative of the row of this number: it has the numbers of the row's cells, in their order
pub record IsOfRow (n : Numerals) (row : ℕ × Cells) (a : Alternative) : Type 0 where
  pub id : a.id ≡ row_id row.0 (word_at row.1 0)
  pub width : length row.1 ≡ length a.performances + 1
  pub each : (i : ℕ) → i < length a.performances → amount_in n (word_at row.1 (i + 1)) ≡ Some (performance_of a i)

-- the rows behind the first ones that have something in them, with their numbers
abbrev pub filled_rows : Sheet → List (ℕ × Cells)
filled_rows sheet = filter (λ row. any_cell HasText 0 row.1)
    (enumerate_from (before_of (words_of sheet.rows) + 1) (body_of sheet.rows))

-- the criteria are those of the columns behind the first, the alternatives those of the rows; there are no classes
pub record IsOfSheet (o : Named) (sheet : Sheet) (x : Imported) : Type 0 where
  pub criteria : AllZip (IsOfColumn o sheet) (range_with_len 1 (length (row_at sheet.rows 0) - 1)) x.table.criteria
  pub alternatives : AllZip (IsOfRow x.numerals) (filled_rows sheet) x.table.alternatives
  pub classes : x.table.classes ≡ 0

abbrev pub ValuesAreCells : Type 0
ValuesAreCells = (o : Named) (sheet : Sheet) (x : Imported) → imported_in o sheet ≡ Ok x → IsOfSheet o sheet x
