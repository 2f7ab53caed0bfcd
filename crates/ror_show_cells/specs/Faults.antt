-- The faults of spreadsheets, and what they are among those of tables.
use Rattle.std.specs.Prelude.{ℕ, ◌^◌, nat_lt, Option, Some, None, if◌then◌else◌}
use Rattle.ror_table.specs.declared.fault.What.TheVariants.{Alternatives}
use Rattle.ror_table.specs.declared.fault.TableFault.{TableFault}
use Rattle.ror_table.specs.declared.fault.TableKind.{TableKind}
use Rattle.ror_table.specs.declared.fault.TableKind.TheVariants as tables
use Rattle.ror_show_cells.specs.declared.fault.SheetError.{SheetError}
use Rattle.ror_show_cells.specs.declared.fault.SheetError.TheVariants as errors
use Rattle.ror_show_cells.specs.declared.fault.SheetFault.{SheetFault}
use Rattle.ror_show_cells.specs.declared.fault.SheetKind.{SheetKind}
use Rattle.ror_show_cells.specs.declared.fault.SheetKind.TheVariants as sheets

-- the fault that an error names: none for want of memory
abbrev pub sheet_fault : SheetError → Option SheetFault
sheet_fault (errors.Bad fault) = Some fault
sheet_fault errors.Memory = None

abbrev pub fault_at : SheetKind → ℕ → ℕ → SheetFault
fault_at kind row column = record { kind = kind; row = row; column = column }

-- a fault of the whole sheet
abbrev pub whole_fault : SheetKind → SheetFault
whole_fault kind = fault_at kind 0 0

abbrev pub table_kind : SheetKind → TableKind
table_kind sheets.TooLong = tables.TooLong
table_kind sheets.Utf16 = tables.NotUtf8
table_kind sheets.NotUtf8 = tables.NotUtf8
table_kind sheets.Nul = tables.NotUtf8
table_kind sheets.TooManyRows = tables.TooMany Alternatives
table_kind sheets.OneColumn = tables.Form
table_kind sheets.Ragged = tables.BadLine
table_kind sheets.NoName = tables.BadLine
table_kind sheets.RepeatedId = tables.RepeatedId
table_kind sheets.BadDirection = tables.BadLine
table_kind sheets.NoDirection = tables.BadLine
table_kind sheets.TwoDirections = tables.BadLine
table_kind (sheets.UnknownName option) = tables.BadLine
table_kind sheets.NoValue = tables.MissingPerformance
table_kind sheets.Thousands = tables.BadNumber
table_kind sheets.OtherMark = tables.BadNumber
table_kind sheets.Exponent = tables.BadNumber
table_kind sheets.TooManyDigits = tables.BadNumber
table_kind sheets.NoNumber = tables.BadNumber
table_kind (sheets.TooMany what) = tables.TooMany what
table_kind sheets.Empty = tables.Empty
table_kind sheets.WideScale = tables.WideScale

-- the number of a row stands for that of a line; there are never as many as 2 ^ 32
abbrev pub line_of : ℕ → ℕ
line_of row = if nat_lt row (2 ^ 32) then row else 0

abbrev pub table_fault : SheetFault → TableFault
table_fault fault = record { kind = table_kind fault.kind; line = line_of fault.row }
