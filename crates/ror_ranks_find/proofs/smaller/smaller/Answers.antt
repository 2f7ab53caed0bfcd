use Rattle.std.proofs.Common.{arith}
use Rattle.ror_ranks_find.proofs.SmallLemmas.{one_then}
use Rattle.ror_ranks_find.proofs.smaller.smaller.Goals as goal

pub loop-member-preserved : goal.loop-member-preserved
loop-member-preserved c =
    let before = c.loop-member.invariant.1 in
    let after = c.reduced-in-loop-member.ensures.counted in
    (one_then c.args.sought.now c.args.conflict.items c.loop-member.conflict.items _ c.loop-member.invariant.0 c.in_ok-conflict-2.ensures.less, omega (arith, before, after))
