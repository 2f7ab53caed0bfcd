-- One answer more.
use Rattle.std.proofs.Common.{length}
use Rattle.ror_show_ground.proofs.Lists.{zip_next, within_at}
use Rattle.ror_show_find_reasons.specs.Lines.{IsToldAt}
use Rattle.ror_show_find_reasons.proofs.telling.told_at.Goals as goal

pub tell-requires-clause-there : goal.tell-requires-clause-there
tell-requires-clause-there c = within_at (length c.args.stood.now.answers.now) c.args.places.now c.loop-place.place-index c.loop-place-test.true c.requires.within

pub loop-place-preserved : goal.loop-place-preserved
loop-place-preserved c =
    let s = c.args.stood.now in
    zip_next (IsToldAt s.table.now s.list.now s.answers.now) c.args.places.now c.loop-place.place-index 0 c.loop-place.found.items c.push.new.self.items c.in_ok-told.told c.loop-place-test.true c.loop-place.invariant c.in_ok-told.ensures c.in_ok-push.ensures.items
