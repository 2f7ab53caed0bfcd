use Rattle.std.proofs.Common.{◌≡◌}
use Rattle.std.specs.List.{flat_map, range_with_len}
use Rattle.ror_show_text_whatif.specs.Times.{rows_at}
use Rattle.ror_show_text_whatif.proofs.times.time_rows.Given as goal

abbrev pub invariant-loop-k : goal.invariant-loop-k
invariant-loop-k l = l.rows.items ≡ flat_map (rows_at l.way l.lines) (range_with_len 0 l.k)
