use Rattle.std.proofs.Common.{◌≡◌, ◌++◌, take}
use Rattle.std.specs.List.{flat_map}
use Rattle.ror_show_text_whatif.specs.TimeLists.{row_of}
use Rattle.ror_show_text_whatif.proofs.time_lists.write_each.Given as goal

abbrev pub invariant-lines : goal.invariant-lines
invariant-lines l = l.text.items ≡ l.initial.text.items ++ flat_map (row_of l.table l.shift l.way l.k) (take l.line-index l.lines)
