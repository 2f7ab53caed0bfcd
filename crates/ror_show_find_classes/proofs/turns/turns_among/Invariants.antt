use Rattle.std.proofs.Common.{◌≡◌}
use Rattle.std.specs.List.{flat_map, range_with_len}
use Rattle.ror_show_find_classes.specs.TimeTurns.{turn_of}
use Rattle.ror_show_find_classes.proofs.turns.turns_among.Given as goal

abbrev pub invariant-loop-place : goal.invariant-loop-place
invariant-loop-place l = l.made.items ≡ flat_map (turn_of l.times) (range_with_len 0 l.place)
