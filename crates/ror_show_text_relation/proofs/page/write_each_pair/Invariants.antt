use Rattle.std.proofs.Common.{◌≡◌, ◌++◌, take}
use Rattle.std.specs.List.{flat_map}
use Rattle.ror_show_text_relation.specs.Pages.{pair_line}
use Rattle.ror_show_text_relation.proofs.page.write_each_pair.Given as goal

abbrev pub invariant-pairs : goal.invariant-pairs
invariant-pairs l = l.text.items ≡ l.initial.text.items ++ flat_map (pair_line l.table) (take l.pair-index l.found)
