-- The place of one part more.
use Rattle.ror_show_find_proofs.specs.Places.{part_place}
use Rattle.ror_show_ground.proofs.Tests.{pieces_more}
use Rattle.ror_show_find_proofs.proofs.function_places.push_parts.Goals as goal

pub loop-j-preserved : goal.loop-j-preserved
loop-j-preserved c =
    pieces_more (part_place c.args.answers.now c.args.k) c.loop-j.j c.args.places.now.items c.loop-j.places.items c.push_part.new.places.items c.loop-j.invariant c.in_ok-push_part.ensures
