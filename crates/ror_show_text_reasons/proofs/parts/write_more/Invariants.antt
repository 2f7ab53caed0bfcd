use Rattle.std.proofs.Common.{◌≡◌, ◌++◌, take}
use Rattle.std.specs.List.{flat_map}
use Rattle.ror_show_text_reasons.specs.Parts.{more_times}
use Rattle.ror_show_text_reasons.proofs.parts.write_more.Given as goal

abbrev pub invariant-counts : goal.invariant-counts
invariant-counts l = l.text.items ≡ l.initial.text.items ++ flat_map more_times (take l.count-index l.counts)
