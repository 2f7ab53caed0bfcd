use Rattle.std.proofs.Common.{◌≡◌, take}
use Rattle.ror_warm.proofs.present.copied_rows.Given as goal

abbrev pub invariant-loop-row : goal.invariant-loop-row
invariant-loop-row l = l.copies.items ≡ take l.row-index l.rows
