use Rattle.std.proofs.Common.{◌≤◌, length, refl, ap, arith, rules}
use Rattle.ror_ranks_find.proofs.FoundLemmas.{has_fewer}
use Rattle.ror_ranks_find.proofs.found.Found.reach.Goals as goal

pub returns-then-len-clause-more : goal.returns-then-len-clause-more
returns-then-len-clause-more c =
    let few : length c.args.except.items ≤ length c.args.self.now.except = search rules in
    let same = ap length c.from.ensures in
    has_fewer c.args.self.now _ refl refl (omega (arith, few, same))

pub returns-else-len-clause-more : goal.returns-else-len-clause-more
returns-else-len-clause-more c = has_fewer c.args.self.now _ refl refl (omega arith)
