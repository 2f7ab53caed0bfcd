use Rattle.std.proofs.Common.{◌≡◌, ◌++◌, ◌∷◌, [], subst}
use Rattle.ror_xmcda.specs.Performances.{AreAmounts}
use Rattle.ror_xmcda.proofs.PerformanceLemmas.{given_added, amounts_added}
use Rattle.ror_xmcda.proofs.performances.Given.add.Goals as goal

added : (c : goal.In_ok-insert) → c.insert.new.self.entries ≡ c.args.self.now ++ (c.args.place, c.args.performance) ∷ []
added c =
    given_added c.self.inside.entries c.insert.new.self c.args.self.now c.args.place c.args.performance c.self.view_is c.requires.absent c.in_ok-insert.ensures.entries

pub returns : goal.returns
returns c = added c

pub invariant_of-self-2 : goal.invariant_of-self-2
invariant_of-self-2 c = amounts_added c.args.self.now c.insert.new.self.entries c.args.place c.args.performance (subst AreAmounts c.self.view_is c.self.invariant) c.requires.amount (added c)
