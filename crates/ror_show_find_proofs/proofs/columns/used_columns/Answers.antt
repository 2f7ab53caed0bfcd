-- One column more.
use Rattle.std.proofs.Common.{◌≡◌, ◌++◌, [], ◌∷◌, rules}
use Rattle.ror_show_ground.proofs.Tests.{mapped_more}
use Rattle.ror_show_find_proofs.specs.Sums.{is_used}
use Rattle.ror_show_find_proofs.proofs.columns.used_columns.Goals as goal

pub loop-j-preserved : goal.loop-j-preserved
loop-j-preserved c =
    let pushed : c.push.new.self.items ≡ c.loop-j.used.items ++ is_used c.args.system.now c.args.multipliers.now c.loop-j.j ∷ [] = search rules in
    mapped_more (is_used c.args.system.now c.args.multipliers.now) c.loop-j.j c.loop-j.used.items c.push.new.self.items c.loop-j.invariant pushed
