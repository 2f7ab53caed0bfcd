-- One alternative more.
use Rattle.std.proofs.Common.{[]}
use Rattle.ror_show_find_classes.specs.Rows.{places_of}
use Rattle.ror_show_ground.proofs.Tests.{pieces_more}
use Rattle.ror_show_find_classes.proofs.order.in_order.Goals as goal

pub loop-a-preserved : goal.loop-a-preserved
loop-a-preserved c = pieces_more (places_of c.args.kept.now c.args.places.now) c.loop-a.a [] c.loop-a.made.items c.push_of.new.made.items c.loop-a.invariant c.in_ok-push_of.ensures
