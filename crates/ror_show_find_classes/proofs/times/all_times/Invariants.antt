use Rattle.std.proofs.Common.{◌≡◌}
use Rattle.std.specs.List.{flat_map, range_with_len}
use Rattle.ror_show_find_classes.specs.Times.{if_begins}
use Rattle.ror_show_find_classes.proofs.times.all_times.Given as goal

abbrev pub invariant-loop-n : goal.invariant-loop-n
invariant-loop-n l = l.made.items ≡ flat_map (if_begins l.ground.session.now l.ground.kept.now) (range_with_len 0 l.n)
