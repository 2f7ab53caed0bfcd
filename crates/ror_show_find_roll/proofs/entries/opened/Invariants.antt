use Rattle.std.proofs.Common.{◌≡◌}
use Rattle.ror_show_find_roll.specs.Roll.{opened}
use Rattle.ror_show_find_roll.proofs.entries.opened.Given as goal

abbrev pub invariant-loop-k : goal.invariant-loop-k
invariant-loop-k l = l.entries.items ≡ opened l.k
