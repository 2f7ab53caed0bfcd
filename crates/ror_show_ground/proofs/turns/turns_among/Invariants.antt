use Rattle.std.proofs.Common.{◌≡◌}
use Rattle.std.specs.List.{flat_map, range_with_len}
use Rattle.ror_show_ground.specs.Turns.{turn_of}
use Rattle.ror_show_ground.proofs.turns.turns_among.Given as goal

abbrev pub invariant-loop-n : goal.invariant-loop-n
invariant-loop-n l = l.made.items ≡ flat_map (turn_of l.session l.kept) (range_with_len 0 l.n)
