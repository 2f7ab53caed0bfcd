-- One more.
use Rattle.std.proofs.Common.{[]}
use Rattle.ror_show_find_classes.specs.Times.{if_begins}
use Rattle.ror_show_ground.proofs.Tests.{pieces_more}
use Rattle.ror_show_find_classes.proofs.times.all_times.Goals as goal

pub loop-n-preserved : goal.loop-n-preserved
loop-n-preserved c = pieces_more (if_begins c.args.ground.now.session.now c.args.ground.now.kept.now) c.loop-n.n [] c.loop-n.made.items c.push_time.new.made.items c.loop-n.invariant c.in_ok-push_time.ensures
