use Rattle.ror_show_text_relation.specs.Text.{some_level_text}
use Rattle.ror_show_ground.proofs.Tests.{pieces_more}
use Rattle.ror_show_text_relation.proofs.lists.write_all_levels.Goals as goal

pub loop-k-preserved : goal.loop-k-preserved
loop-k-preserved c = pieces_more (some_level_text c.args.table.now c.args.page.now) c.loop-k.k c.args.text.now.items c.loop-k.text.items c.write_level.new.text.items c.loop-k.invariant c.in_ok-write_level.ensures
