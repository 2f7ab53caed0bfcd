use Rattle.std.proofs.Common.{◌≡◌, ◌++◌}
use Rattle.ror_show_kit.specs.Layout.{spaces}
use Rattle.ror_show_kit.proofs.layout.write_spaces.Given as goal

abbrev pub invariant-loop : goal.invariant-loop
invariant-loop l = l.text.items ≡ l.fn.text.items ++ spaces l.counter
