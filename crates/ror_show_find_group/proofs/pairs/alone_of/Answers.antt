use Rattle.std.proofs.Common.{[]}
use Rattle.ror_show_find_group.specs.Pairs.{alone_from}
use Rattle.ror_show_ground.proofs.Tests.{pieces_more}
use Rattle.ror_show_find_group.proofs.pairs.alone_of.Goals as goal

pub loop-a-preserved : goal.loop-a-preserved
loop-a-preserved c = pieces_more (alone_from c.args.judges.now c.args.size c.args.judge.now) c.loop-a.a [] c.loop-a.made.items c.push_alone_from.new.made.items c.loop-a.invariant c.in_ok-push_alone_from.ensures
