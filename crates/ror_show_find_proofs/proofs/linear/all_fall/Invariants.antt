use Rattle.std.proofs.Common.{◌≡◌}
use Rattle.ror_show_find_proofs.specs.Linear.{all_fall}
use Rattle.ror_show_find_proofs.proofs.linear.all_fall.Given as goal

abbrev pub invariant-loop-k : goal.invariant-loop-k
invariant-loop-k l = l.fall ≡ all_fall l.table l.forms l.multipliers l.i l.k
