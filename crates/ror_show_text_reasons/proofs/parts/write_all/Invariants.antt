use Rattle.std.proofs.Common.{◌≡◌, ◌++◌}
use Rattle.std.specs.List.{flat_map, range_with_len}
use Rattle.ror_show_text_reasons.specs.Parts.{row_at}
use Rattle.ror_show_text_reasons.proofs.parts.write_all.Given as goal

abbrev pub invariant-loop-k : goal.invariant-loop-k
invariant-loop-k l =
    l.text.items ≡ l.fn.text.items ++ flat_map (row_at l.scene.table.now l.scene.list.now l.scene.lines.now l.case.numbers.now l.owners l.case.answer.now.verdict) (range_with_len 0 l.k)
