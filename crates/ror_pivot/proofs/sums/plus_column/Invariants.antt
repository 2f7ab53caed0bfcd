use Rattle.std.proofs.Common.{pos, ◌+ℤ◌, drop, map}
use Rattle.ror_integers.specs.Vectors.{absolute_dot, column}
use Rattle.ror_pivot.proofs.SumLemmas.{IsSummed}
use Rattle.ror_pivot.proofs.sums.plus_column.Given as goal

abbrev pub invariant-loop-i : goal.invariant-loop-i
invariant-loop-i g l =
    let value = g.W.Word.value in
    let weights = map value l.multipliers in
    let entries = column l.rows l.j in
    IsSummed g.W.Word.most (value l.initial.sum +ℤ pos (absolute_dot weights entries)) (value l.sum) (absolute_dot (drop l.i weights) (drop l.i entries))
