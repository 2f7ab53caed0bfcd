use Rattle.ror_show_text_relation.specs.Text.{from_text}
use Rattle.ror_show_ground.proofs.Tests.{pieces_more}
use Rattle.ror_show_text_relation.proofs.lists.write_each_pair.Goals as goal

pub loop-a-preserved : goal.loop-a-preserved
loop-a-preserved c = pieces_more (from_text c.args.table.now c.args.pairs.now) c.loop-a.a c.args.text.now.items c.loop-a.text.items c.write_from.new.text.items c.loop-a.invariant c.in_ok-write_from.ensures
