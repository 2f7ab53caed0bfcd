use Rattle.std.proofs.Common.{◌≡◌}
use Rattle.std.specs.List.{flat_map, range_with_len}
use Rattle.ror_show_ground.specs.Grounds.{ground_of}
use Rattle.ror_show_find_classes.specs.Findings.{answered_line}
use Rattle.ror_show_find_classes.proofs.findings.class_lines.Given as goal

abbrev pub invariant-loop-n : goal.invariant-loop-n
invariant-loop-n l = l.found.items ≡ flat_map (answered_line (ground_of l.ground)) (range_with_len 0 l.n)
