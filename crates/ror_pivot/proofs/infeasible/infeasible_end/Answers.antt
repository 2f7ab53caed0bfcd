-- What is read is what the objective gives, and no column's sum is too wide, or the first that is.
use Rattle.std.proofs.Common.{◌++◌, List, ℤ, pos, map, ap, ◌∙◌, arith}
use Rattle.std.proofs.lemmas.Result.{err_from_is_err_and}
use Rattle.ror_integers.specs.Vectors.{absolute_dot, column}
use Rattle.ror_system.specs.Acceptance.{rows_of}
use Rattle.ror_pivot.specs.declared.fault.NumberFault.TheVariants.{Wide}
use Rattle.ror_pivot.specs.declared.note.Place.TheVariants.{ColumnSum}
use Rattle.ror_pivot.specs.Tableau.{shape_of}
use Rattle.ror_pivot.specs.Ends.{weak_multipliers_at, strict_multipliers_at}
use Rattle.ror_pivot.proofs.MultiplierLemmas.{weak_read, strict_read, length-weak, length-strict, words_narrow, sum_given, sum_not_given, narrow_more, column_over, columns_end}
use Rattle.ror_pivot.proofs.infeasible.infeasible_end.Goals as goal

pub column_sum-requires-clause-weak_length : goal.column_sum-requires-clause-weak_length
column_sum-requires-clause-weak_length g c =
    let value = g.W.Word.value in
    let h = shape_of c.args.s.now in
    let rows = c.args.rows.now in
    length-weak value h rows c.as_slice.result.now c.in_ok-weak.weak.items c.as_slice.ensures.value
    (weak_read h c.of-shape.result rows c.index-rows-objective_row.result c.objective_row.result c.slack_column.result (map value c.in_ok-weak.weak.items) c.requires.tableau.rows_of_shape c.of-shape.ensures.value c.objective_row.ensures c.index-rows-objective_row.is c.slack_column.ensures c.in_ok-weak.ensures.exact)

pub column_sum-requires-clause-strict_length : goal.column_sum-requires-clause-strict_length
column_sum-requires-clause-strict_length g c =
    let value = g.W.Word.value in
    let h = shape_of c.args.s.now in
    let rows = c.args.rows.now in
    length-strict value h rows c.as_slice-in-loop-j.result.now c.in_ok-strict.strict.items c.as_slice-in-loop-j.ensures.value
    (strict_read h c.of-shape.result rows c.index-rows-objective_row.result c.objective_row.result c.slack_column-2.result (map value c.in_ok-strict.strict.items) c.requires.tableau.rows_of_shape c.of-shape.ensures.value c.objective_row.ensures c.index-rows-objective_row.is c.slack_column-2.ensures c.in_ok-strict.ensures.exact)

pub returns-in_err-ok_or-clause-exact : goal.returns-in_err-ok_or-clause-exact
returns-in_err-ok_or-clause-exact g c =
    let value = g.W.Word.value in
    let most = g.W.Word.most in
    let s = c.args.s.now in
    let h = shape_of s in
    let rows = c.args.rows.now in
    let weak = c.in_ok-weak.weak.items in
    let strict = c.in_ok-strict.strict.items in
    let j = c.loop-j.j in
    let is_weak = weak_read h c.of-shape.result rows c.index-rows-objective_row.result c.objective_row.result c.slack_column.result (map value weak) c.requires.tableau.rows_of_shape c.of-shape.ensures.value c.objective_row.ensures c.index-rows-objective_row.is c.slack_column.ensures c.in_ok-weak.ensures.exact in
    let is_strict = strict_read h c.of-shape.result rows c.index-rows-objective_row.result c.objective_row.result c.slack_column-2.result (map value strict) c.requires.tableau.rows_of_shape c.of-shape.ensures.value c.objective_row.ensures c.index-rows-objective_row.is c.slack_column-2.ensures c.in_ok-strict.ensures.exact in
    let sum = simp (c.as_slice.ensures.value, c.as_slice-in-loop-j.ensures.value) at c.column_sum.ensures in
    let over = sum_not_given value most c.column_sum.result (Wide (ColumnSum j)) c.in_err-ok_or.field-0.0 (pos (absolute_dot (map value weak ++ map value strict) (column (rows_of s) j))) c.in_err-ok_or.ensures.value sum in
    let exit = err_from_is_err_and c.from_residual-in_err-ok_or.result c.from_residual-in_err-ok_or.ensures.1 in
    rw (exit.1, exit.2) (column_over {V = List ℤ × List ℤ} most s c.of-shape.result rows (map value weak) (map value strict) j c.in_err-ok_or.field-0.0 (weak_multipliers_at h rows, strict_multipliers_at h rows) c.of-shape.ensures.value is_weak is_strict c.loop-j-test.true over.0 over.1 c.loop-j.invariant)

pub loop-j-preserved : goal.loop-j-preserved
loop-j-preserved g c =
    let value = g.W.Word.value in
    let most = g.W.Word.most in
    let weak = map value c.in_ok-weak.weak.items in
    let strict = map value c.in_ok-strict.strict.items in
    let rows = rows_of c.args.s.now in
    let j = c.loop-j.j in
    let sum = simp (c.as_slice.ensures.value, c.as_slice-in-loop-j.ensures.value) at c.column_sum.ensures in
    narrow_more most (weak ++ strict) rows j
    (sum_given value most c.column_sum.result (Wide (ColumnSum j)) c.in_ok-ok_or.field-0 (pos (absolute_dot (weak ++ strict) (column rows j))) c.in_ok-ok_or.ensures.value sum)
    c.loop-j.invariant

pub returns-clause-exact : goal.returns-clause-exact
returns-clause-exact g c =
    let value = g.W.Word.value in
    let most = g.W.Word.most in
    let s = c.args.s.now in
    let h = shape_of s in
    let rows = c.args.rows.now in
    let weak = c.in_ok-weak.weak.items in
    let strict = c.in_ok-strict.strict.items in
    let is_weak = weak_read h c.of-shape.result rows c.index-rows-objective_row.result c.objective_row.result c.slack_column.result (map value weak) c.requires.tableau.rows_of_shape c.of-shape.ensures.value c.objective_row.ensures c.index-rows-objective_row.is c.slack_column.ensures c.in_ok-weak.ensures.exact in
    let is_strict = strict_read h c.of-shape.result rows c.index-rows-objective_row.result c.objective_row.result c.slack_column-2.result (map value strict) c.requires.tableau.rows_of_shape c.of-shape.ensures.value c.objective_row.ensures c.index-rows-objective_row.is c.slack_column-2.ensures c.in_ok-strict.ensures.exact in
    columns_end most s c.of-shape.result rows (map value weak) (map value strict) c.loop-j.j c.in_ok-numbers_of.field-0 c.in_ok-numbers_of-2.field-0 c.of-shape.ensures.value is_weak is_strict (omega arith) c.loop-j-test.false
    (c.in_ok-numbers_of.ensures ∙ ap (map value) c.as_slice-2.ensures.value)
    (c.in_ok-numbers_of-2.ensures ∙ ap (map value) c.as_slice-3.ensures.value)
    c.loop-j.invariant

pub returns-clause-narrow : goal.returns-clause-narrow
returns-clause-narrow g c =
    let value = g.W.Word.value in
    let most = g.W.Word.most in (
      words_narrow value most c.in_ok-weak.weak.items c.in_ok-numbers_of.field-0 (c.in_ok-numbers_of.ensures ∙ ap (map value) c.as_slice-2.ensures.value) c.in_ok-weak.ensures.within,
      words_narrow value most c.in_ok-strict.strict.items c.in_ok-numbers_of-2.field-0 (c.in_ok-numbers_of-2.ensures ∙ ap (map value) c.as_slice-3.ensures.value) c.in_ok-strict.ensures.within,
    )
