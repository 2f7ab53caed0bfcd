-- One cell more.
use Rattle.std.proofs.Common.{◌≡◌, rules}
use Rattle.std.specs.Prelude.{[], ◌∷◌, ◌++◌}
use Rattle.ror_show_ground.proofs.Tests.{mapped_more}
use Rattle.ror_show_find_relation.specs.Cells.{cell_at}
use Rattle.ror_show_find_relation.proofs.page.cells_from.Goals as goal

pub loop-b-preserved : goal.loop-b-preserved
loop-b-preserved c =
    let pushed : c.push.new.self.items ≡ c.loop-b.made.items ++ cell_at c.args.size c.args.answers.now c.args.a c.loop-b.b ∷ [] = search rules in
    mapped_more (cell_at c.args.size c.args.answers.now c.args.a) c.loop-b.b c.loop-b.made.items c.push.new.self.items c.loop-b.invariant pushed
