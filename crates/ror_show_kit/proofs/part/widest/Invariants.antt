use Rattle.std.proofs.Common.{◌≡◌}
use Rattle.ror_show_kit.specs.Parts.{widest}
use Rattle.ror_show_kit.proofs.part.widest.Given as goal

abbrev pub invariant-loop-a : goal.invariant-loop-a
invariant-loop-a l = l.widest ≡ widest l.table l.a
