-- One line more, and all of them.
use Rattle.std.proofs.Common.{refl}
use Rattle.ror_show_find_roll.specs.Roll.{refused_by, refused}
use Rattle.ror_show_find_roll.proofs.Loops.{each_on, each_done}
use Rattle.ror_show_find_roll.proofs.roll.refused.Goals as goal

pub steps-preserved : goal.steps-preserved
steps-preserved c = each_on (λ turn. refused_by turn.place turn.body) refused (λ x xs. refl) c.steps.refused.items c.push_refused.new.refused.items (refused c.args.steps.now) c.args.steps.now c.steps.step-index c.step-item.result c.steps-test.true c.step-item.is c.in_ok-push_refused.ensures c.steps.invariant

pub returns : goal.returns
returns c = each_done refused refl c.steps.refused.items (refused c.args.steps.now) c.args.steps.now c.steps.step-index c.steps-test.false c.steps.invariant
