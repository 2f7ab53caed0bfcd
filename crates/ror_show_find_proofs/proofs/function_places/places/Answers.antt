-- Those of one answer more.
use Rattle.std.proofs.Common.{[]}
use Rattle.ror_show_find_proofs.specs.Places.{places_of}
use Rattle.ror_show_ground.proofs.Tests.{pieces_more}
use Rattle.ror_show_find_proofs.proofs.function_places.places.Goals as goal

pub loop-k-preserved : goal.loop-k-preserved
loop-k-preserved c =
    pieces_more (places_of c.args.answers.now) c.loop-k.k [] c.loop-k.places.items c.push_places.new.places.items c.loop-k.invariant c.in_ok-push_places.ensures
