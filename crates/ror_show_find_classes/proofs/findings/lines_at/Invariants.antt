use Rattle.std.proofs.Common.{◌≡◌, take}
use Rattle.ror_show_ground.specs.Grounds.{ground_of}
use Rattle.ror_show_find_classes.specs.Findings.{class_lines_at}
use Rattle.ror_show_find_classes.proofs.findings.lines_at.Given as goal

abbrev pub invariant-places : goal.invariant-places
invariant-places l = l.made.items ≡ class_lines_at (ground_of l.ground) (take l.place-index l.places)
