-- One line more.
use Rattle.std.proofs.Common.{[]}
use Rattle.ror_show_ground.proofs.Tests.{pieces_more}
use Rattle.ror_show_ground.specs.Lines.{place_if, has_answers}
use Rattle.ror_show_ground.proofs.lines.answered_places.Goals as goal

pub loop-n-preserved : goal.loop-n-preserved
loop-n-preserved c = pieces_more (place_if has_answers c.args.kept.now) c.loop-n.n [] c.loop-n.places.items c.push_answered.new.places.items c.loop-n.invariant c.in_ok-push_answered.ensures
