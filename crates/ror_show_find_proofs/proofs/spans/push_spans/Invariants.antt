use Rattle.std.proofs.Common.{◌≡◌, ◌++◌}
use Rattle.std.specs.List.{flat_map, range_with_len}
use Rattle.ror_show_find_proofs.specs.Spans.{span_at}
use Rattle.ror_show_find_proofs.proofs.spans.push_spans.Given as goal

abbrev pub invariant-loop-k : goal.invariant-loop-k
invariant-loop-k l = l.spans.items ≡ l.fn.spans.items ++ flat_map (span_at l.table l.used l.i) (range_with_len 0 l.k)
