-- One pair more.
use Rattle.ror_show_ground.proofs.Tests.{pieces_more}
use Rattle.ror_show_find_whatif.specs.Shifts.{pair_of}
use Rattle.ror_show_find_whatif.proofs.pairs.push_from.Goals as goal

pub loop-b-preserved : goal.loop-b-preserved
loop-b-preserved c = pieces_more (pair_of c.args.before.now c.args.after.now c.args.shift c.args.a) c.loop-b.b c.args.made.now.items c.loop-b.made.items c.push_pair.new.made.items c.loop-b.invariant c.in_ok-push_pair.ensures
