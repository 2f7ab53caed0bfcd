use Rattle.std.proofs.Common.{◌≡◌, ◌++◌, take}
use Rattle.std.specs.List.{flat_map}
use Rattle.ror_show_text_reasons.specs.Met.{met_row}
use Rattle.ror_show_text_reasons.proofs.met.write_each.Given as goal

abbrev pub invariant-list : goal.invariant-list
invariant-list l = l.text.items ≡ l.fn.text.items ++ flat_map (met_row l.table l.function) (take l.k l.list)
