use Rattle.std.proofs.Common.{◌≡◌, rules}
use Rattle.std.specs.Prelude.{[], ◌∷◌, ◌++◌}
use Rattle.ror_show_ground.proofs.Tests.{mapped_more}
use Rattle.ror_show_find_group.specs.Grounds.{group_ground_of}
use Rattle.ror_show_find_group.specs.Judges.{judge_at}
use Rattle.ror_show_find_group.proofs.judge.judges_of.Goals as goal

pub loop-judge-preserved : goal.loop-judge-preserved
loop-judge-preserved c =
    let pushed : c.push.new.self.items ≡ c.loop-judge.judges.items ++ judge_at (group_ground_of c.args.ground.now) c.loop-judge.judge ∷ [] = search rules in
    mapped_more (judge_at (group_ground_of c.args.ground.now)) c.loop-judge.judge c.loop-judge.judges.items c.push.new.self.items c.loop-judge.invariant pushed
