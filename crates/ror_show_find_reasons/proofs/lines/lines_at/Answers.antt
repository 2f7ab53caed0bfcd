-- One line more.
use Rattle.std.proofs.Common.{length}
use Rattle.ror_show_ground.specs.Grounds.{ground_of}
use Rattle.ror_show_ground.proofs.Lists.{zip_next, within_at}
use Rattle.ror_show_find_reasons.specs.Lines.{IsLineFound}
use Rattle.ror_show_find_reasons.proofs.lines.lines_at.Goals as goal

pub find_line-requires-clause-there : goal.find_line-requires-clause-there
find_line-requires-clause-there c = within_at (length c.args.ground.now.kept.now) c.args.places.now c.loop-place.place-index c.loop-place-test.true c.requires.within

pub loop-place-preserved : goal.loop-place-preserved
loop-place-preserved c =
    zip_next (IsLineFound c.args.meant (ground_of c.args.ground.now)) c.args.places.now c.loop-place.place-index 0 c.loop-place.found.items c.push.new.self.items c.in_ok-line.line c.loop-place-test.true c.loop-place.invariant c.in_ok-line.ensures c.in_ok-push.ensures.items
