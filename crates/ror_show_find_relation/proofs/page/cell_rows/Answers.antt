-- One row more.
use Rattle.std.proofs.Common.{◌≡◌, rules}
use Rattle.std.specs.Prelude.{[], ◌∷◌, ◌++◌}
use Rattle.ror_show_ground.proofs.Tests.{mapped_more}
use Rattle.ror_show_find_relation.specs.Cells.{cells_from}
use Rattle.ror_show_find_relation.proofs.page.cell_rows.Goals as goal

pub loop-a-preserved : goal.loop-a-preserved
loop-a-preserved c =
    let pushed : c.push.new.self.items ≡ c.loop-a.made.items ++ cells_from c.args.size c.args.answers.now c.loop-a.a ∷ [] = search rules in
    mapped_more (cells_from c.args.size c.args.answers.now) c.loop-a.a c.loop-a.made.items c.push.new.self.items c.loop-a.invariant pushed
