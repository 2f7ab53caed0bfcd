-- One line more, and all of them.
use Rattle.std.proofs.Common.{refl}
use Rattle.ror_show_find_roll.specs.Steps.{kept_turn, kept_turns}
use Rattle.ror_show_find_roll.proofs.Loops.{each_on, each_done}
use Rattle.ror_show_find_roll.proofs.steps.steps_of.Goals as goal

pub kept-preserved : goal.kept-preserved
kept-preserved c = each_on (kept_turn c.args.lines.now c.args.desk) (kept_turns c.args.lines.now c.args.desk) (λ x xs. refl) c.kept.steps.items c.push_step.new.steps.items (kept_turns c.args.lines.now c.args.desk c.args.kept.now) c.args.kept.now c.kept.line-index c.line-item.result c.kept-test.true c.line-item.is c.in_ok-push_step.ensures c.kept.invariant

pub returns : goal.returns
returns c = each_done (kept_turns c.args.lines.now c.args.desk) refl c.kept.steps.items (kept_turns c.args.lines.now c.args.desk c.args.kept.now) c.args.kept.now c.kept.line-index c.kept-test.false c.kept.invariant
