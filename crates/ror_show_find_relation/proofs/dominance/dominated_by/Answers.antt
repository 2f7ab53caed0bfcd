-- One alternative more.
use Rattle.std.proofs.Common.{◌≡◌, rules}
use Rattle.std.specs.Prelude.{[], ◌∷◌, ◌++◌}
use Rattle.ror_show_ground.proofs.Tests.{mapped_more}
use Rattle.ror_show_find_relation.specs.Dominance.{dominates}
use Rattle.ror_show_find_relation.proofs.dominance.dominated_by.Goals as goal

pub loop-b-preserved : goal.loop-b-preserved
loop-b-preserved c =
    let pushed : c.push.new.self.items ≡ c.loop-b.row.items ++ dominates c.args.table.now c.args.a c.loop-b.b ∷ [] = search rules in
    mapped_more (dominates c.args.table.now c.args.a) c.loop-b.b c.loop-b.row.items c.push.new.self.items c.loop-b.invariant pushed
