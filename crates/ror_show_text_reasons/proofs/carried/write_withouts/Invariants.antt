use Rattle.std.proofs.Common.{◌≡◌, ◌++◌}
use Rattle.std.specs.List.{flat_map, range_with_len}
use Rattle.ror_show_text_reasons.specs.Reasons.{without_at}
use Rattle.ror_show_text_reasons.proofs.carried.write_withouts.Given as goal

abbrev pub invariant-loop-k : goal.invariant-loop-k
invariant-loop-k l =
    l.text.items ≡ l.fn.text.items ++ flat_map (without_at l.table l.case.answer.now.question l.clashes l.case.numbers.now l.case.others.now) (range_with_len 0 l.k)
