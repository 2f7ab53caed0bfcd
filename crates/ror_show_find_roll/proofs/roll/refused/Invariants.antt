use Rattle.std.proofs.Common.{◌≡◌, ◌++◌, drop}
use Rattle.ror_show_find_roll.specs.Roll.{refused}
use Rattle.ror_show_find_roll.proofs.roll.refused.Given as goal

abbrev pub invariant-steps : goal.invariant-steps
invariant-steps l = l.refused.items ++ refused (drop l.step-index l.steps) ≡ refused l.steps
