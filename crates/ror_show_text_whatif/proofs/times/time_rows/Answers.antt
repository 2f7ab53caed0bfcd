-- One row more.
use Rattle.std.proofs.Common.{[]}
use Rattle.ror_show_ground.proofs.Tests.{pieces_more}
use Rattle.ror_show_text_whatif.specs.Times.{rows_at}
use Rattle.ror_show_text_whatif.proofs.times.time_rows.Goals as goal

pub loop-k-preserved : goal.loop-k-preserved
loop-k-preserved c = pieces_more (rows_at c.args.way c.args.lines.now) c.loop-k.k [] c.loop-k.rows.items c.push_row.new.rows.items c.loop-k.invariant c.in_ok-push_row.ensures
