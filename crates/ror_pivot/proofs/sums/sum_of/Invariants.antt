use Rattle.std.proofs.Common.{map}
use Rattle.ror_integers.specs.Vectors.{total}
use Rattle.ror_pivot.proofs.SumLemmas.{IsSummed, left_of}
use Rattle.ror_pivot.proofs.sums.sum_of.Given as goal

abbrev pub invariant-loop-i : goal.invariant-loop-i
invariant-loop-i g l =
    let xs = map g.W.Word.value l.words in
    IsSummed g.W.Word.most (total xs) (g.W.Word.value l.sum) (left_of xs l.i)
