use Rattle.std.proofs.Common.{◌≡◌, ◌++◌, map, take}
use Rattle.ror_show_find_proofs.specs.Linear.{step_at}
use Rattle.ror_show_find_proofs.proofs.linear.push_steps.Given as goal

abbrev pub invariant-loop-form : goal.invariant-loop-form
invariant-loop-form l = l.made.items ≡ l.fn.made.items ++ map (step_at l.table l.i l.k) (take l.form-index l.forms)
