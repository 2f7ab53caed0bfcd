-- One time more.
use Rattle.std.proofs.Common.{length}
use Rattle.ror_show_ground.specs.Grounds.{ground_of}
use Rattle.ror_show_ground.proofs.Lists.{zip_next, within_at}
use Rattle.ror_show_find_whatif.specs.Findings.{IsTimeWhatIf}
use Rattle.ror_show_find_whatif.proofs.times.times_at.Goals as goal

pub time_from-requires-clause-there : goal.time_from-requires-clause-there
time_from-requires-clause-there c = within_at (length c.args.ground.now.kept.now) c.args.starts.now c.loop-place.place-index c.loop-place-test.true c.requires.within

pub loop-place-preserved : goal.loop-place-preserved
loop-place-preserved c =
    zip_next (IsTimeWhatIf (ground_of c.args.ground.now)) c.args.starts.now c.loop-place.place-index 0 c.loop-place.found.items c.push.new.self.items c.in_ok-time.time c.loop-place-test.true c.loop-place.invariant c.in_ok-time.ensures c.in_ok-push.ensures.items
