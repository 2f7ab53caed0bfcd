use Rattle.std.proofs.Common.{◌≡◌, ◌++◌}
use Rattle.std.specs.List.{flat_map, range_with_len}
use Rattle.ror_show_text_reasons.specs.SumText.{span_in}
use Rattle.ror_show_text_reasons.proofs.sum_words.write_spans.Given as goal

abbrev pub invariant-loop-k : goal.invariant-loop-k
invariant-loop-k l = l.text.items ≡ l.fn.text.items ++ flat_map (span_in l.table l.spans) (range_with_len 0 l.k)
