use Rattle.std.proofs.Common.{◌≡◌, ◌++◌, drop}
use Rattle.std.specs.List.{flat_map}
use Rattle.ror_show_ground.specs.Grounds.{ground_of}
use Rattle.ror_show_text_roll.specs.Page.{taken_row}
use Rattle.ror_show_text_roll.proofs.page.write_all_taken.Given as goal

abbrev pub invariant-taken : goal.invariant-taken
invariant-taken l = l.text.items ++ flat_map (taken_row (ground_of l.ground)) (drop l.taken-index l.taken_back) ≡ l.initial.text.items ++ flat_map (taken_row (ground_of l.ground)) l.taken_back
