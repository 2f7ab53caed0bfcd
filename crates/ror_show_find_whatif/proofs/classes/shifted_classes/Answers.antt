-- One class more.
use Rattle.std.proofs.Common.{[]}
use Rattle.ror_show_ground.proofs.Tests.{pieces_more}
use Rattle.ror_show_find_whatif.specs.ClassShifts.{class_behind}
use Rattle.ror_show_find_whatif.proofs.classes.shifted_classes.Goals as goal

pub loop-n-preserved : goal.loop-n-preserved
loop-n-preserved c = pieces_more (class_behind c.args.before.now c.args.after.now c.args.shift) c.loop-n.n [] c.loop-n.made.items c.push_class.new.made.items c.loop-n.invariant c.in_ok-push_class.ensures
