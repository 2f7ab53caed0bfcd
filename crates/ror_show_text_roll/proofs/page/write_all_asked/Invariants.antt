use Rattle.std.proofs.Common.{◌≡◌, ◌++◌, drop}
use Rattle.std.specs.List.{flat_map}
use Rattle.ror_show_ground.specs.Grounds.{ground_of}
use Rattle.ror_show_text_roll.specs.Page.{asked_row}
use Rattle.ror_show_text_roll.proofs.page.write_all_asked.Given as goal

abbrev pub invariant-places : goal.invariant-places
invariant-places l = l.text.items ++ flat_map (asked_row (ground_of l.ground)) (drop l.place-index l.places) ≡ l.initial.text.items ++ flat_map (asked_row (ground_of l.ground)) l.places
