use Rattle.std.proofs.Common.{arith}
use Rattle.ror_confidence.specs.Levels as spec
use Rattle.ror_confidence.proofs.Nested.{levels_more}
use Rattle.ror_confidence.proofs.levels.level_lists.Goals as goal

pub levels-preserved : goal.levels-preserved
levels-preserved c =
    let standing = c.args.standing.now in
    let levels = c.args.levels.now in
    let under = c.levels-test.true in
    record {
      upto = omega arith;
      lists = rw c.in_ok-push.ensures.items (levels_more (spec.list_at standing levels) c.levels.lists.items (spec.level_lists standing levels) c.in_ok-list_at.field-0 c.levels.level levels.count under c.levels.invariant.lists c.in_ok-list_at.ensures);
    }
