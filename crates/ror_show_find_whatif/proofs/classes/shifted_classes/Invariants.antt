use Rattle.std.proofs.Common.{◌≡◌}
use Rattle.std.specs.List.{flat_map, range_with_len}
use Rattle.ror_show_find_whatif.specs.ClassShifts.{class_behind}
use Rattle.ror_show_find_whatif.proofs.classes.shifted_classes.Given as goal

abbrev pub invariant-loop-n : goal.invariant-loop-n
invariant-loop-n l = l.made.items ≡ flat_map (class_behind l.before l.after l.shift) (range_with_len 0 l.n)
