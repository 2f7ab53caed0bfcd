use Rattle.ror_show_find_group.specs.Pairs.{differing_pair}
use Rattle.ror_show_ground.proofs.Tests.{pieces_more}
use Rattle.ror_show_find_group.proofs.pairs.push_differing_from.Goals as goal

pub loop-b-preserved : goal.loop-b-preserved
loop-b-preserved c = pieces_more (differing_pair c.args.rows.now c.args.a) c.loop-b.b c.args.made.now.items c.loop-b.made.items c.push_differing.new.made.items c.loop-b.invariant c.in_ok-push_differing.ensures
