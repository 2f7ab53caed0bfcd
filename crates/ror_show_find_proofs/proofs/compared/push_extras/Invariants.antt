use Rattle.std.proofs.Common.{◌≡◌, ◌++◌, map, take}
use Rattle.ror_rows.specs.Rows.{comparison_of_extra}
use Rattle.ror_show_find_proofs.proofs.compared.push_extras.Given as goal

abbrev pub invariant-loop-extra : goal.invariant-loop-extra
invariant-loop-extra l = l.made.items ≡ l.fn.made.items ++ map comparison_of_extra (take l.extra-index l.extras)
