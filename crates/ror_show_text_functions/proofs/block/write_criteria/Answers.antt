-- The lines of one criterion more.
use Rattle.ror_show_text_functions.specs.Blocks.{criterion_text}
use Rattle.ror_show_ground.proofs.Tests.{pieces_more}
use Rattle.ror_show_text_functions.proofs.block.write_criteria.Goals as goal

pub loop-i-preserved : goal.loop-i-preserved
loop-i-preserved c =
    pieces_more (criterion_text c.args.table.now c.args.function.now) c.loop-i.i c.args.text.now.items c.loop-i.text.items c.write_criterion.new.text.items c.loop-i.invariant c.in_ok-write_criterion.ensures
