use Rattle.ror_show_ground.proofs.Tests.{pieces_more}
use Rattle.ror_show_text_reasons.specs.SumText.{linear_in}
use Rattle.ror_show_text_reasons.proofs.sum_words.write_names.Goals as goal

pub loop-k-preserved : goal.loop-k-preserved
loop-k-preserved c = pieces_more (linear_in c.args.table.now c.args.linear.now) c.loop-k.k c.args.text.now.items c.loop-k.text.items c.write_name_in.new.text.items c.loop-k.invariant c.in_ok-write_name_in.ensures
