use Rattle.std.proofs.Common.{◌≡◌, ◌-◌}
use Rattle.ror_table.specs.Table.{width}
use Rattle.ror_show_find_proofs.specs.Spans.{end_of}
use Rattle.ror_show_find_proofs.proofs.spans.end_of.Given as goal

abbrev pub invariant-steps : goal.invariant-steps
invariant-steps l = end_of l.table l.used l.fn.i l.end ≡ end_of l.table l.used l.fn.i l.fn.k

abbrev pub decreases-steps : goal.decreases-steps
decreases-steps l = width l.table l.fn.i - l.end
