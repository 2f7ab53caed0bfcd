use Rattle.std.proofs.Common.{◌≡◌}
use Rattle.std.specs.List.{flat_map, range_with_len}
use Rattle.std.specs.Option.{option_map}
use Rattle.ror_show_ground.specs.Grounds.{ground_of}
use Rattle.ror_show_find_roll.specs.Findings.{roll_if}
use Rattle.ror_show_find_roll.proofs.findings.find_rolls.Given as goal

abbrev pub invariant-desks : goal.invariant-desks
invariant-desks l = l.made.items ≡ flat_map (roll_if (option_map (λ word. word.now) l.fn.meant) (ground_of l.ground)) (range_with_len 0 l.desk)
