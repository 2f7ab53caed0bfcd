use Rattle.std.proofs.Common.{pos, drop}
use Rattle.ror_integers.specs.Vectors.{absolute_dot}
use Rattle.ror_pivot.proofs.SumLemmas.{IsSummed}
use Rattle.ror_pivot.proofs.sums.absolute_row_sum.Given as goal

abbrev pub invariant-loop-j : goal.invariant-loop-j
invariant-loop-j g l = IsSummed g.W.Word.most (pos (absolute_dot l.row l.values)) (g.W.Word.value l.sum) (absolute_dot (drop l.j l.row) (drop l.j l.values))
