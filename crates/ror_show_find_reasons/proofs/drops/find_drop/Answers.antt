use Rattle.std.proofs.Common.{refl}
use Rattle.ror_check.specs.Repair.{numbers_of}
use Rattle.ror_show_ground.proofs.Lists.{at_place, got_at}
use Rattle.ror_show_find_reasons.proofs.Clashes.{drop_of}
use Rattle.ror_show_find_reasons.proofs.drops.find_drop.Goals as goal

pub conflict_of-requires-clause-there : goal.conflict_of-requires-clause-there
conflict_of-requires-clause-there c = at_place c.args.stood.now.list.now c.args.place _ c.requires.there

pub returns : goal.returns
returns c =
    let s = c.args.stood.now in
    let dropped = numbers_of c.args.dropped.now in
    (refl, λ y here. drop_of s.table.now s.list.now dropped c.args.place _ y c.in_ok-conflict.conflict (got_at s.list.now c.args.place _ y c.requires.there here) c.in_ok-conflict.ensures)
