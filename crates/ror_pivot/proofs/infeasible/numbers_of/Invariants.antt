use Rattle.std.proofs.Common.{◌≡◌, map, take}
use Rattle.ror_pivot.proofs.infeasible.numbers_of.Given as goal

abbrev pub invariant-loop-word : goal.invariant-loop-word
invariant-loop-word g l = l.numbers ≡ map g.W.Word.value (take l.word-index l.words)
