-- One change more.
use Rattle.std.proofs.Common.{length, get_or}
use Rattle.ror_text.proofs.Everywhere.{all_at}
use Rattle.ror_show_ground.specs.Grounds.{ground_of}
use Rattle.ror_show_ground.proofs.Lists.{at_place, zip_next}
use Rattle.ror_show_find_reasons.specs.Pairs.{AreWithin, IsChangeFound}
use Rattle.ror_show_find_reasons.proofs.changes.changes_at.Goals as goal

pub find_change-requires-clause-there : goal.find_change-requires-clause-there
find_change-requires-clause-there c =
    let turns = c.args.turns.now in
    let i = c.loop-turn.turn-index in
    all_at (AreWithin (length c.args.ground.now.kept.now)) turns i (get_or turns i (0, 0)) c.requires.within (at_place turns i (0, 0) c.loop-turn-test.true)

pub loop-turn-preserved : goal.loop-turn-preserved
loop-turn-preserved c =
    zip_next (IsChangeFound c.args.sought (ground_of c.args.ground.now)) c.args.turns.now c.loop-turn.turn-index (0, 0) c.loop-turn.found.items c.push.new.self.items c.in_ok-change.change c.loop-turn-test.true c.loop-turn.invariant c.in_ok-change.ensures c.in_ok-push.ensures.items
