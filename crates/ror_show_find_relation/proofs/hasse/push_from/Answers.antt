-- The arrow to one alternative more.
use Rattle.ror_show_find_relation.specs.Arrows.{arrow_of}
use Rattle.ror_show_ground.proofs.Tests.{pieces_more}
use Rattle.ror_show_find_relation.proofs.hasse.push_from.Goals as goal

pub loop-b-preserved : goal.loop-b-preserved
loop-b-preserved c = pieces_more (arrow_of c.args.relation.now c.args.a) c.loop-b.b c.args.made.now.items c.loop-b.made.items c.push_arrow.new.made.items c.loop-b.invariant c.in_ok-push_arrow.ensures
