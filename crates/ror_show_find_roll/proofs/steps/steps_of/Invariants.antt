use Rattle.std.proofs.Common.{◌≡◌, ◌++◌, drop}
use Rattle.ror_show_find_roll.specs.Steps.{kept_turns}
use Rattle.ror_show_find_roll.proofs.steps.steps_of.Given as goal

abbrev pub invariant-kept : goal.invariant-kept
invariant-kept l = l.steps.items ++ kept_turns l.lines l.fn.desk (drop l.line-index l.kept) ≡ kept_turns l.lines l.fn.desk l.kept
