use Rattle.std.proofs.Common.{◌≡◌, ◌++◌, length}
use Rattle.std.specs.List.{flat_map, range_with_len}
use Rattle.ror_show_kit.specs.Parts.{widest}
use Rattle.ror_show_text_group.specs.Apart.{part_text_at}
use Rattle.ror_show_text_group.proofs.apart.write_parts.Given as goal

abbrev pub invariant-loop-place : goal.invariant-loop-place
invariant-loop-place l =
    l.text.items ≡ l.fn.text.items ++ flat_map (part_text_at l.table l.judges l.pairs (widest l.table (length l.table.alternatives))) (range_with_len 0 l.place)
