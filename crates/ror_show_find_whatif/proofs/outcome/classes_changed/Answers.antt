use Rattle.std.proofs.Common.{ℕ, subst}
use Rattle.ror_show_find_whatif.specs.ClassShifts.{IsClassEffect}
use Rattle.ror_show_find_whatif.proofs.outcome.classes_changed.Goals as goal

pub returns : goal.returns
returns c =
    subst (λ (n : ℕ). IsClassEffect n c.args.before.now c.args.after.now c.in_ok-classes.classes) c.classes.ensures.number c.in_ok-classes.ensures
