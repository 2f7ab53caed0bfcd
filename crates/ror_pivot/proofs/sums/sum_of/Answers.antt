-- None of the words is below 0: a sum so far that is too wide makes the whole so.
use Rattle.std.proofs.Common.{◌∙◌, map, ap, arith}
use Rattle.std.proofs.lemmas.List.{length-map}
use Rattle.ror_integers.specs.Vectors.{total}
use Rattle.ror_pivot.proofs.SumLemmas.{none_given, summed_none, summed_more, summed_over, summed_all, left_more, word_term}
use Rattle.ror_pivot.proofs.sums.sum_of.Goals as goal

pub loop-i-init : goal.loop-i-init
loop-i-init g c =
    let value = g.W.Word.value in
    summed_none g.W.Word.most (map value c.args.words.now) (value c.ZERO-sum.result) c.requires.not_negative (ap value c.ZERO-sum.ensures ∙ g.met.W.Word.value_of_zero)

pub add-requires-clause-self_value : goal.add-requires-clause-self_value
add-requires-clause-self_value g c = c.loop-i.invariant.within

pub returns-in_err-sum : goal.returns-in_err-sum
returns-in_err-sum g c =
    let value = g.W.Word.value in
    let words = c.args.words.now in
    let i = c.loop-i.i in
    let left = left_more (map value words) i c.requires.not_negative (let l = c.loop-i-test.true in omega (arith, length-map words value)) in
    let term = word_term value words i c.index-words-i.result c.requires.not_negative c.loop-i-test.true c.index-words-i.is in
    none_given value g.W.Word.most c.from_residual.result (total (map value words)) c.from_residual.ensures
    (summed_over g.W.Word.most (total (map value words)) (value c.loop-i.sum) (value c.index-words-i.result) _ _ _ left term c.in_err-sum.ensures c.loop-i.invariant)

pub loop-i-preserved : goal.loop-i-preserved
loop-i-preserved g c =
    let value = g.W.Word.value in
    let words = c.args.words.now in
    let i = c.loop-i.i in
    let left = left_more (map value words) i c.requires.not_negative (let l = c.loop-i-test.true in omega (arith, length-map words value)) in
    let term = word_term value words i c.index-words-i.result c.requires.not_negative c.loop-i-test.true c.index-words-i.is in
    summed_more g.W.Word.most (total (map value words)) (value c.loop-i.sum) (value c.in_ok-sum.sum) (value c.index-words-i.result) _ _ _ left term c.in_ok-sum.ensures.0 c.in_ok-sum.ensures.1 c.loop-i.invariant

pub returns : goal.returns
returns g c =
    let value = g.W.Word.value in
    let words = c.args.words.now in
    summed_all g.W.Word.most (map value words) (value c.loop-i.sum) c.loop-i.i (let l = c.loop-i-test.false in omega (arith, length-map words value)) c.loop-i.invariant
