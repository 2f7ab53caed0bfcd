use Rattle.ror_show_ground.proofs.Tests.{pieces_more}
use Rattle.ror_show_text_reasons.specs.SumText.{span_in}
use Rattle.ror_show_text_reasons.proofs.sum_words.write_spans.Goals as goal

pub loop-k-preserved : goal.loop-k-preserved
loop-k-preserved c = pieces_more (span_in c.args.table.now c.args.spans.now) c.loop-k.k c.args.text.now.items c.loop-k.text.items c.write_span_in.new.text.items c.loop-k.invariant c.in_ok-write_span_in.ensures
