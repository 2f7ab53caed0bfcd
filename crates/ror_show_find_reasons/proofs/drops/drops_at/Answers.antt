-- One statement more.
use Rattle.std.proofs.Common.{length}
use Rattle.ror_check.specs.Repair.{numbers_of}
use Rattle.ror_show_ground.proofs.Lists.{zip_next, within_at}
use Rattle.ror_show_find_reasons.specs.Lines.{IsDropAt}
use Rattle.ror_show_find_reasons.proofs.drops.drops_at.Goals as goal

pub find_drop-requires-clause-there : goal.find_drop-requires-clause-there
find_drop-requires-clause-there c = within_at (length c.args.stood.now.list.now) c.args.places.now c.loop-place.place-index c.loop-place-test.true c.requires.within

pub loop-place-preserved : goal.loop-place-preserved
loop-place-preserved c =
    let s = c.args.stood.now in
    zip_next (IsDropAt s.table.now s.list.now (numbers_of c.args.dropped.now)) c.args.places.now c.loop-place.place-index 0 c.loop-place.found.items c.push.new.self.items c.in_ok-drop_found.drop_found c.loop-place-test.true c.loop-place.invariant c.in_ok-drop_found.ensures c.in_ok-push.ensures.items
