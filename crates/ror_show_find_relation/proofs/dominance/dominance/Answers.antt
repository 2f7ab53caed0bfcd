-- One row more.
use Rattle.std.proofs.Common.{◌≡◌, rules}
use Rattle.std.specs.Prelude.{[], ◌∷◌, ◌++◌}
use Rattle.ror_show_ground.proofs.Tests.{mapped_more}
use Rattle.ror_show_find_relation.specs.Dominance.{dominated_by}
use Rattle.ror_show_find_relation.proofs.dominance.dominance.Goals as goal

pub loop-a-preserved : goal.loop-a-preserved
loop-a-preserved c =
    let pushed : c.push.new.self.items ≡ c.loop-a.rows.items ++ dominated_by c.args.table.now c.loop-a.a ∷ [] = search rules in
    mapped_more (dominated_by c.args.table.now) c.loop-a.a c.loop-a.rows.items c.push.new.self.items c.loop-a.invariant pushed
