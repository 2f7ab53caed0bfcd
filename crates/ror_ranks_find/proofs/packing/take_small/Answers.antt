use Rattle.std.proofs.Common.{rules}
use Rattle.ror_ranks_find.proofs.PackingSteps.{small_apart}
use Rattle.ror_ranks_find.proofs.packing.take_small.Goals as goal

pub returns-clause-taken : goal.returns-clause-taken
returns-clause-taken c =
    let old = c.args.found.now.conflicts.items in
    let now = c.add.new.self.conflicts.items in
    let apart = small_apart c.args.sought.now c.args.conflict.items c.in_ok-less.less.items old now c.args.packing.now.met.items c.in_ok-less.ensures.smaller c.in_ok-add.ensures.added c.requires.apart in
    search (rules, apart)
