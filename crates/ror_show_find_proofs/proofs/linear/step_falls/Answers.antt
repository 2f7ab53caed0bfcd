use Rattle.std.proofs.Common.{sym, subst}
use Rattle.std.specs.List.{AllByRecursion}
use Rattle.ror_system.specs.System.{IsNarrow}
use Rattle.ror_show_find_proofs.proofs.LinearLemmas.{steps_narrow, strict_steps_narrow}
use Rattle.ror_show_find_proofs.proofs.linear.step_falls.Goals as goal

pub narrow_sum-requires : goal.narrow_sum-requires
narrow_sum-requires c = subst (AllByRecursion IsNarrow) (sym c.in_ok-weak.ensures) (steps_narrow c.args.table.now c.args.i c.args.k c.args.forms.now.weak)

pub narrow_sum-requires-2 : goal.narrow_sum-requires-2
narrow_sum-requires-2 c = subst (AllByRecursion IsNarrow) (sym c.in_ok-strict.ensures) (strict_steps_narrow c.args.table.now c.args.i c.args.k c.args.forms.now.strict)
