use Rattle.std.proofs.Common.{◌≡◌, rules}
use Rattle.std.specs.Prelude.{[], ◌∷◌, ◌++◌}
use Rattle.ror_show_ground.proofs.Tests.{mapped_more}
use Rattle.ror_show_find_group.specs.Judges.{judge_cell}
use Rattle.ror_show_find_group.proofs.judge.judge_row.Goals as goal

pub loop-b-preserved : goal.loop-b-preserved
loop-b-preserved c =
    let pushed : c.push.new.self.items ≡ c.loop-b.made.items ++ judge_cell c.args.size c.args.entries.now c.args.judge c.args.a c.loop-b.b ∷ [] = search rules in
    mapped_more (judge_cell c.args.size c.args.entries.now c.args.judge c.args.a) c.loop-b.b c.loop-b.made.items c.push.new.self.items c.loop-b.invariant pushed
