use Rattle.std.proofs.Common.{◌≡◌, ◌++◌, take}
use Rattle.std.specs.List.{flat_map}
use Rattle.ror_show_text_whatif.specs.Lists.{case_lists}
use Rattle.ror_show_text_whatif.proofs.lists.write_lists.Given as goal

abbrev pub invariant-cases : goal.invariant-cases
invariant-cases l = l.text.items ≡ l.initial.text.items ++ flat_map (case_lists l.table) (take l.case-index l.cases)
