use Rattle.std.proofs.Common.{◌≡◌, ◌++◌, take}
use Rattle.std.specs.List.{flat_map}
use Rattle.ror_show_text_group.specs.Apart.{row_text}
use Rattle.ror_show_text_group.proofs.apart.write_rows.Given as goal

abbrev pub invariant-pairs : goal.invariant-pairs
invariant-pairs l = l.text.items ≡ l.initial.text.items ++ flat_map (row_text l.table l.judges l.fn.part) (take l.pair-index l.pairs)
