use Rattle.std.proofs.Common.{map}
use Rattle.ror_pivot.proofs.ClimbReadings.{AreTestedTo}
use Rattle.ror_pivot.proofs.climb_end.test_columns.Given as goal

abbrev pub invariant-loop-j : goal.invariant-loop-j
invariant-loop-j g l =
    let value = g.W.Word.value in
    AreTestedTo g.W.Word.most l.s l.top (map value l.weak) (map value l.strict) l.j
