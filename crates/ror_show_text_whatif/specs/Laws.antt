-- What holds of the order of the rows.
use Rattle.std.specs.Prelude.{◌≤◌, List, Contains}
use Rattle.ror_show_text_whatif.specs.declared.rows.Row.{Row}
use Rattle.ror_show_text_whatif.specs.Rows.{most_in}
use Rattle.ror_show_text_whatif.specs.Told.{first_of}

-- none of them has a greater count than that with which they begin, so each is written
abbrev pub EachHasARow : Type 0
EachHasARow = (rows : List Row) (row : Row) → Contains rows row → first_of row.told ≤ most_in rows
