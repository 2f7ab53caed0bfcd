use Rattle.ror_show_cells.proofs.Cells.{field_some, field_none}
use Rattle.ror_show_cells.proofs.row.Row.cell.Goals as goal

pub returns-in-Some : goal.returns-in-Some
returns-in-Some c = field_some _ _ _ (rw c.self.view_is at c.in-Some.ensures.value)

pub returns-in-None : goal.returns-in-None
returns-in-None c = field_none _ _ (rw c.self.view_is at c.in-None.ensures.value)
