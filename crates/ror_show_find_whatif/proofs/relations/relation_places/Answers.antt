-- One line more.
use Rattle.std.proofs.Common.{[]}
use Rattle.ror_show_ground.proofs.Tests.{pieces_more}
use Rattle.ror_show_ground.specs.Lines.{place_if}
use Rattle.ror_show_find_whatif.specs.Findings.{has_relation}
use Rattle.ror_show_find_whatif.proofs.relations.relation_places.Goals as goal

pub loop-n-preserved : goal.loop-n-preserved
loop-n-preserved c = pieces_more (place_if (has_relation c.args.session.now) c.args.kept.now) c.loop-n.n [] c.loop-n.places.items c.push_place.new.places.items c.loop-n.invariant c.in_ok-push_place.ensures
