use Rattle.std.proofs.Common.{[]}
use Rattle.ror_show_ground.proofs.Tests.{pieces_more}
use Rattle.ror_show_find_proofs.specs.Spans.{spans_on}
use Rattle.ror_show_find_proofs.proofs.spans.spans_of.Goals as goal

pub loop-i-preserved : goal.loop-i-preserved
loop-i-preserved c = pieces_more (spans_on c.args.table.now c.args.used.now) c.loop-i.i [] c.loop-i.spans.items c.push_spans.new.spans.items c.loop-i.invariant c.in_ok-push_spans.ensures
