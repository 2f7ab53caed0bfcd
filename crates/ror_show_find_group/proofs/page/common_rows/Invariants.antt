use Rattle.std.proofs.Common.{◌≡◌, map, take}
use Rattle.ror_show_find_group.specs.Findings.{common_cell}
use Rattle.ror_show_find_group.proofs.page.common_rows.Given as goal

abbrev pub invariant-loop-row : goal.invariant-loop-row
invariant-loop-row l = l.made.items ≡ map (map common_cell) (take l.row-index l.rows)
