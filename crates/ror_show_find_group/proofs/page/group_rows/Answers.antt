use Rattle.std.proofs.Common.{◌≡◌, rules}
use Rattle.std.specs.Prelude.{[], ◌∷◌, ◌++◌}
use Rattle.ror_show_ground.proofs.Tests.{mapped_more}
use Rattle.ror_show_find_group.specs.Cells.{group_row}
use Rattle.ror_show_find_group.proofs.page.group_rows.Goals as goal

pub loop-a-preserved : goal.loop-a-preserved
loop-a-preserved c =
    let pushed : c.push.new.self.items ≡ c.loop-a.made.items ++ group_row c.args.judges.now c.args.size c.loop-a.a ∷ [] = search rules in
    mapped_more (group_row c.args.judges.now c.args.size) c.loop-a.a c.loop-a.made.items c.push.new.self.items c.loop-a.invariant pushed
