use Rattle.ror_show_find_group.specs.Pairs.{alone_pair}
use Rattle.ror_show_ground.proofs.Tests.{pieces_more}
use Rattle.ror_show_find_group.proofs.pairs.push_alone_from.Goals as goal

pub loop-b-preserved : goal.loop-b-preserved
loop-b-preserved c = pieces_more (alone_pair c.args.judges.now c.args.judge.now c.args.a) c.loop-b.b c.args.made.now.items c.loop-b.made.items c.push_alone.new.made.items c.loop-b.invariant c.in_ok-push_alone.ensures
