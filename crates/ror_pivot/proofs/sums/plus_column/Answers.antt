-- Each term is that of the column, and none is below 0: a sum that is too wide makes the whole so.
use Rattle.std.proofs.Common.{◌+ℤ◌, pos, map, FitsSigned, rules}
use Rattle.std.specs.Int.{w128}
use Rattle.std.proofs.lemmas.Int.{to_z-of_z}
use Rattle.ror_integers.specs.Vectors.{absolute_dot, column}
use Rattle.ror_pivot.proofs.SumLemmas.{none_given, column_term, summed_more, summed_over, term_over}
use Rattle.ror_pivot.proofs.sums.plus_column.Goals as goal

pub returns-in_err-absolute_product : goal.returns-in_err-absolute_product
returns-in_err-absolute_product g c =
    let value = g.W.Word.value in
    let most = g.W.Word.most in
    let ms = c.args.multipliers.now in
    let rows = c.args.rows.now in
    let i = c.loop-i.i in
    let j = c.args.j in
    let total = value c.args.start +ℤ pos (absolute_dot (map value ms) (column rows j)) in
    let f : FitsSigned w128 c.entry.result = search rules in
    let term = column_term value ms rows i j c.index-multipliers-i.result _ _ c.entry.result c.requires.lengths c.loop-i-test.true c.index-multipliers-i.is c.index-rows-i.is (to_z-of_z w128 c.entry.result f) c.entry.ensures.value in
    none_given value most c.from_residual.result total c.from_residual.ensures
    (term_over most total (value c.loop-i.sum) _ _ _ term c.in_err-absolute_product.ensures c.loop-i.invariant)

pub returns-in_err-sum : goal.returns-in_err-sum
returns-in_err-sum g c =
    let value = g.W.Word.value in
    let most = g.W.Word.most in
    let ms = c.args.multipliers.now in
    let rows = c.args.rows.now in
    let i = c.loop-i.i in
    let j = c.args.j in
    let total = value c.args.start +ℤ pos (absolute_dot (map value ms) (column rows j)) in
    let f : FitsSigned w128 c.entry.result = search rules in
    let term = column_term value ms rows i j c.index-multipliers-i.result _ _ c.entry.result c.requires.lengths c.loop-i-test.true c.index-multipliers-i.is c.index-rows-i.is (to_z-of_z w128 c.entry.result f) c.entry.ensures.value in
    none_given value most c.from_residual-in_err-sum.result total c.from_residual-in_err-sum.ensures
    (summed_over most total (value c.loop-i.sum) (value c.in_ok-absolute_product.field-0) _ _ _ term c.in_ok-absolute_product.ensures.0 c.in_err-sum.ensures c.loop-i.invariant)

pub loop-i-preserved : goal.loop-i-preserved
loop-i-preserved g c =
    let value = g.W.Word.value in
    let most = g.W.Word.most in
    let ms = c.args.multipliers.now in
    let rows = c.args.rows.now in
    let i = c.loop-i.i in
    let j = c.args.j in
    let total = value c.args.start +ℤ pos (absolute_dot (map value ms) (column rows j)) in
    let f : FitsSigned w128 c.entry.result = search rules in
    let term = column_term value ms rows i j c.index-multipliers-i.result _ _ c.entry.result c.requires.lengths c.loop-i-test.true c.index-multipliers-i.is c.index-rows-i.is (to_z-of_z w128 c.entry.result f) c.entry.ensures.value in
    summed_more most total (value c.loop-i.sum) (value c.in_ok-sum.sum) (value c.in_ok-absolute_product.field-0) _ _ _ term c.in_ok-absolute_product.ensures.0 c.in_ok-sum.ensures.0 c.in_ok-sum.ensures.1 c.loop-i.invariant
