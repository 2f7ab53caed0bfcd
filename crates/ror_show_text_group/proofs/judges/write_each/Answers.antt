use Rattle.ror_show_text_group.specs.Judges.{judge_at}
use Rattle.ror_show_ground.proofs.Tests.{pieces_more}
use Rattle.ror_show_text_group.proofs.judges.write_each.Goals as goal

pub loop-k-preserved : goal.loop-k-preserved
loop-k-preserved c = pieces_more (judge_at c.args.desks.now c.args.judges.now c.args.size c.args.sort) c.loop-k.k c.args.text.now.items c.loop-k.text.items c.write_judge_at.new.text.items c.loop-k.invariant c.in_ok-write_judge_at.ensures
