use Rattle.std.proofs.Common.{◌≡◌, ◌++◌, drop}
use Rattle.std.specs.List.{flat_map}
use Rattle.ror_show_ground.specs.Grounds.{ground_of}
use Rattle.ror_show_text_roll.specs.Page.{gone_row}
use Rattle.ror_show_text_roll.proofs.page.write_all_gone.Given as goal

abbrev pub invariant-gone : goal.invariant-gone
invariant-gone l = l.text.items ++ flat_map (gone_row (ground_of l.ground)) (drop l.one-index l.gone) ≡ l.initial.text.items ++ flat_map (gone_row (ground_of l.ground)) l.gone
