use Rattle.ror_show_text_group.specs.Apart.{alone_at}
use Rattle.ror_show_ground.proofs.Tests.{pieces_more}
use Rattle.ror_show_text_group.proofs.apart.write_each.Goals as goal

pub loop-k-preserved : goal.loop-k-preserved
loop-k-preserved c = pieces_more (alone_at c.args.table.now c.args.desks.now c.args.alone.now) c.loop-k.k c.args.text.now.items c.loop-k.text.items c.write_alone_at.new.text.items c.loop-k.invariant c.in_ok-write_alone_at.ensures
