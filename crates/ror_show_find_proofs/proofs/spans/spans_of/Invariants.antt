use Rattle.std.proofs.Common.{◌≡◌}
use Rattle.std.specs.List.{flat_map, range_with_len}
use Rattle.ror_show_find_proofs.specs.Spans.{spans_on}
use Rattle.ror_show_find_proofs.proofs.spans.spans_of.Given as goal

abbrev pub invariant-loop-i : goal.invariant-loop-i
invariant-loop-i l = l.spans.items ≡ flat_map (spans_on l.table l.used) (range_with_len 0 l.i)
