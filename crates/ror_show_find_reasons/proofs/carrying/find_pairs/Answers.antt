-- One pair more.
use Rattle.ror_show_ground.proofs.Lists.{zip_next}
use Rattle.ror_show_find_reasons.specs.Pairs.{IsCarriedPair}
use Rattle.ror_show_find_reasons.proofs.carrying.find_pairs.Goals as goal

pub loop-pair-preserved : goal.loop-pair-preserved
loop-pair-preserved c =
    let s = c.args.stood.now in
    zip_next (IsCarriedPair s.table.now s.list.now s.answers.now) c.args.pairs.now c.loop-pair.pair-index (0, 0) c.loop-pair.found.items c.push.new.self.items c.in_ok-carried.carried c.loop-pair-test.true c.loop-pair.invariant c.in_ok-carried.ensures c.in_ok-push.ensures.items
