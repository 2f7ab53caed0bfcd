use Rattle.std.proofs.Common.{◌≡◌, ◌++◌, take}
use Rattle.std.specs.List.{flat_map}
use Rattle.ror_show_forms.specs.Dot.{arrow}
use Rattle.ror_show_forms.proofs.dot.write_arrows.Given as goal

abbrev pub invariant-arrows : goal.invariant-arrows
invariant-arrows l = l.text.items ≡ l.initial.text.items ++ flat_map (arrow l.table) (take l.arrow-index l.arrows)
