-- One number more is the value of the next word.
use Rattle.std.proofs.Common.{FitsSigned, rules}
use Rattle.std.specs.Int.{w128}
use Rattle.std.proofs.lemmas.Int.{to_z-of_z}
use Rattle.ror_pivot.proofs.MultiplierLemmas.{values_more}
use Rattle.ror_pivot.proofs.infeasible.numbers_of.Goals as goal

pub loop-word-preserved : goal.loop-word-preserved
loop-word-preserved g c =
    let f : FitsSigned w128 c.to_i128.result = search rules in
    values_more g.W.Word.value c.args.words.now c.loop-word.word-index c.loop-word.numbers c.push.new.self c.word-item.result _ c.to_i128.result c.loop-word-test.true c.word-item.is c.to_i128.ensures (to_z-of_z w128 c.to_i128.result f) c.in_ok-push.ensures.ok c.loop-word.invariant
