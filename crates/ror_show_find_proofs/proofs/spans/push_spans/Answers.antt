use Rattle.ror_show_ground.proofs.Tests.{pieces_more}
use Rattle.ror_show_find_proofs.specs.Spans.{span_at}
use Rattle.ror_show_find_proofs.proofs.spans.push_spans.Goals as goal

pub loop-k-preserved : goal.loop-k-preserved
loop-k-preserved c = pieces_more (span_at c.args.table.now c.args.used.now c.args.i) c.loop-k.k c.args.spans.now.items c.loop-k.spans.items c.push_span.new.spans.items c.loop-k.invariant c.in_ok-push_span.ensures
