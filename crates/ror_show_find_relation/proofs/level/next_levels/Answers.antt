-- The level of one alternative more.
use Rattle.std.proofs.Common.{◌≡◌, rules}
use Rattle.std.specs.Prelude.{[], ◌∷◌, ◌++◌}
use Rattle.ror_show_find_relation.specs.Passes.{next_level}
use Rattle.ror_show_ground.proofs.Tests.{mapped_more}
use Rattle.ror_show_find_relation.proofs.level.next_levels.Goals as goal

pub loop-a-preserved : goal.loop-a-preserved
loop-a-preserved c =
    let pushed : c.push.new.self.items ≡ c.loop-a.made.items ++ next_level c.args.relation.now c.args.found.now c.args.level c.loop-a.a ∷ [] = search rules in
    mapped_more (next_level c.args.relation.now c.args.found.now c.args.level) c.loop-a.a c.loop-a.made.items c.push.new.self.items c.loop-a.invariant pushed
