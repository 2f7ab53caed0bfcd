use Rattle.std.proofs.Common.{◌+◌, List, get_or, pos, take}
use Rattle.std.proofs.lemmas.List.{take_more}
use Rattle.ror_table.specs.declared.amount.Amount.{Amount}
use Rattle.ror_table.proofs.LevelLemmas.{IsLevels-none, IsLevels-more}
use Rattle.ror_table.proofs.levels.levels_of.Goals as goal

pub loop-performance-init : goal.loop-performance-init
loop-performance-init c = rw c.new-levels.ensures.items (IsLevels-none c.args.direction)

pub loop-performance-preserved : goal.loop-performance-preserved
loop-performance-preserved c =
    let ps : List Amount = c.args.performances.now in
    let k = c.loop-performance.performance-index in
    let d : Amount = record { num = pos 0; den = pos 0 } in
    IsLevels-more c.args.direction (take k ps) (take (k + 1) ps) c.loop-performance.levels.items c.add_level.new.levels.items (get_or ps k d) c.loop-performance.invariant
    (take_more ps k d c.loop-performance-test.true) c.in_ok-add_level.ensures.rises c.in_ok-add_level.ensures.amounts c.in_ok-add_level.ensures.members
