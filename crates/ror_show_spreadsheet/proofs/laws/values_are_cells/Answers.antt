use Rattle.ror_show_spreadsheet.proofs.Values.{values_are_cells}
use Rattle.ror_show_spreadsheet.proofs.laws.values_are_cells.Goals as goal

pub returns : goal.returns
returns c = values_are_cells
