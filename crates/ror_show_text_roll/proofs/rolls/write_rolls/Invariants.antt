use Rattle.std.proofs.Common.{◌≡◌, ◌++◌, take}
use Rattle.std.specs.List.{flat_map}
use Rattle.ror_show_ground.specs.Grounds.{ground_of}
use Rattle.ror_show_text_roll.specs.Pages.{roll_words}
use Rattle.ror_show_text_roll.proofs.rolls.write_rolls.Given as goal

abbrev pub invariant-desks : goal.invariant-desks
invariant-desks l = l.text.items ≡ l.initial.text.items ++ flat_map (roll_words (ground_of l.ground) l.line) (take l.roll-index l.found)
