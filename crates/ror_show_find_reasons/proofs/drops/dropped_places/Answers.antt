-- One statement more.
use Rattle.std.proofs.Common.{[]}
use Rattle.ror_show_ground.proofs.Tests.{pieces_more}
use Rattle.ror_check.specs.Repair.{numbers_of}
use Rattle.ror_show_find_reasons.specs.Lines.{dropped_if}
use Rattle.ror_show_find_reasons.proofs.drops.dropped_places.Goals as goal

pub loop-k-preserved : goal.loop-k-preserved
loop-k-preserved c = pieces_more (dropped_if (numbers_of c.args.dropped.now) c.args.list.now) c.loop-k.k [] c.loop-k.places.items c.push_dropped.new.places.items c.loop-k.invariant c.in_ok-push_dropped.ensures
