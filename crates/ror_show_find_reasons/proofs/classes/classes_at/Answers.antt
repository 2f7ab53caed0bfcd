-- One time more.
use Rattle.std.proofs.Common.{length}
use Rattle.ror_show_ground.specs.Grounds.{ground_of}
use Rattle.ror_show_ground.proofs.Lists.{zip_next, within_at}
use Rattle.ror_show_find_reasons.specs.Bounds.{IsClassesFound}
use Rattle.ror_show_find_reasons.proofs.classes.classes_at.Goals as goal

pub classes_from-requires-clause-there : goal.classes_from-requires-clause-there
classes_from-requires-clause-there c = within_at (length c.args.ground.now.kept.now) c.args.starts.now c.loop-place.place-index c.loop-place-test.true c.requires.within

pub loop-place-preserved : goal.loop-place-preserved
loop-place-preserved c =
    zip_next (IsClassesFound c.args.sought (ground_of c.args.ground.now)) c.args.starts.now c.loop-place.place-index 0 c.loop-place.found.items c.push.new.self.items c.in_ok-classes.classes c.loop-place-test.true c.loop-place.invariant c.in_ok-classes.ensures c.in_ok-push.ensures.items
