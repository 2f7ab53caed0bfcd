use Rattle.std.proofs.Common.{◌≡◌, rules}
use Rattle.std.specs.Prelude.{[], ◌∷◌, ◌++◌}
use Rattle.ror_show_ground.proofs.Tests.{mapped_more}
use Rattle.ror_show_find_group.specs.Cells.{group_cell}
use Rattle.ror_show_find_group.proofs.page.group_row.Goals as goal

pub loop-b-preserved : goal.loop-b-preserved
loop-b-preserved c =
    let pushed : c.push.new.self.items ≡ c.loop-b.made.items ++ group_cell c.args.judges.now c.args.a c.loop-b.b ∷ [] = search rules in
    mapped_more (group_cell c.args.judges.now c.args.a) c.loop-b.b c.loop-b.made.items c.push.new.self.items c.loop-b.invariant pushed
