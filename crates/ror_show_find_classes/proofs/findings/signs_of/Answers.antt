-- The sign of one class more.
use Rattle.std.proofs.Common.{◌≡◌, ◌+◌, rules}
use Rattle.std.specs.Prelude.{[], ◌∷◌, ◌++◌}
use Rattle.ror_show_ground.proofs.Tests.{mapped_more}
use Rattle.ror_show_find_classes.specs.Signs.{sign_of_class}
use Rattle.ror_show_find_classes.proofs.findings.signs_of.Goals as goal

pub loop-h-preserved : goal.loop-h-preserved
loop-h-preserved c =
    let pushed : c.push.new.self.items ≡ c.loop-h.made.items ++ sign_of_class c.args.answers.now (c.loop-h.h + 1) ∷ [] = search rules in
    mapped_more (λ h. sign_of_class c.args.answers.now (h + 1)) c.loop-h.h c.loop-h.made.items c.push.new.self.items c.loop-h.invariant pushed
