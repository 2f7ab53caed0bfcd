use Rattle.std.proofs.Common.{[]}
use Rattle.ror_show_find_group.specs.Pairs.{differing_from}
use Rattle.ror_show_ground.proofs.Tests.{pieces_more}
use Rattle.ror_show_find_group.proofs.pairs.differing_pairs.Goals as goal

pub loop-a-preserved : goal.loop-a-preserved
loop-a-preserved c = pieces_more (differing_from c.args.rows.now c.args.size) c.loop-a.a [] c.loop-a.made.items c.push_differing_from.new.made.items c.loop-a.invariant c.in_ok-push_differing_from.ensures
