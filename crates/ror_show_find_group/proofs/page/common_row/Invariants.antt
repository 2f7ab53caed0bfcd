use Rattle.std.proofs.Common.{◌≡◌, map, take}
use Rattle.ror_show_find_group.specs.Findings.{common_cell}
use Rattle.ror_show_find_group.proofs.page.common_row.Given as goal

abbrev pub invariant-loop-cell : goal.invariant-loop-cell
invariant-loop-cell l = l.made.items ≡ map common_cell (take l.cell-index l.row)
