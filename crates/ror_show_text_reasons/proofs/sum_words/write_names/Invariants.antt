use Rattle.std.proofs.Common.{◌≡◌, ◌++◌}
use Rattle.std.specs.List.{flat_map, range_with_len}
use Rattle.ror_show_text_reasons.specs.SumText.{linear_in}
use Rattle.ror_show_text_reasons.proofs.sum_words.write_names.Given as goal

abbrev pub invariant-loop-k : goal.invariant-loop-k
invariant-loop-k l = l.text.items ≡ l.fn.text.items ++ flat_map (linear_in l.table l.linear) (range_with_len 0 l.k)
