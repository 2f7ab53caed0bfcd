-- The words read are the multipliers, and none of them is below 0; the columns are tested over them.
use Rattle.std.proofs.Common.{◌∙◌, List, ℤ, map, ap, sym}
use Rattle.std.proofs.lemmas.Result.{err_from_is_err_and}
use Rattle.ror_pivot.specs.Ends.{weak_multipliers_at}
use Rattle.ror_pivot.specs.Climbing.{climbing_shape, climbed_strict}
use Rattle.ror_pivot.proofs.MultiplierLemmas.{weak_read, strict_read, length-weak, words_narrow}
use Rattle.ror_pivot.proofs.ClimbMultipliers.{AreMultipliers, with_zero, length-climbed_strict, climbed_not_negative, columns_fault, multipliers_given, with_zero_within}
use Rattle.ror_pivot.proofs.climb_end.best_multipliers.Goals as goal

pub test_columns-requires-clause-weak_length : goal.test_columns-requires-clause-weak_length
test_columns-requires-clause-weak_length g c =
    let value = g.W.Word.value in
    let s = c.args.s.now in
    let rows = c.args.rows.now in
    let is_weak = weak_read (climbing_shape s) c.climbing-shape.result rows c.index-rows-objective_row.result c.objective_row.result c.slack_column.result (map value c.in_ok-weak.weak.items) c.requires.end.tableau.rows_of_shape c.climbing-shape.ensures.value c.objective_row.ensures c.index-rows-objective_row.is c.slack_column.ensures c.in_ok-weak.ensures.exact in
    length-weak value (climbing_shape s) rows c.as_slice.result.now c.in_ok-weak.weak.items c.as_slice.ensures.value is_weak

pub test_columns-requires-clause-strict_length : goal.test_columns-requires-clause-strict_length
test_columns-requires-clause-strict_length g c =
    let value = g.W.Word.value in
    let s = c.args.s.now in
    let rows = c.args.rows.now in
    let is_strict = strict_read (climbing_shape s) c.climbing-shape.result rows c.index-rows-objective_row.result c.objective_row.result c.slack_column-first.result (map value c.in_ok-strict.strict.items) c.requires.end.tableau.rows_of_shape c.climbing-shape.ensures.value c.objective_row.ensures c.index-rows-objective_row.is c.slack_column-first.ensures c.in_ok-strict.ensures.exact in
    length-climbed_strict value s rows c.in_ok-strict.strict.items c.insert.new.self.items c.as_slice-2.result.now c.ZERO.result c.requires.second c.as_slice-2.ensures.value c.in_ok-insert.ensures.items is_strict

pub test_columns-requires-clause-strict_not_negative : goal.test_columns-requires-clause-strict_not_negative
test_columns-requires-clause-strict_not_negative g c =
    let value = g.W.Word.value in
    let s = c.args.s.now in
    let rows = c.args.rows.now in
    let is_strict = strict_read (climbing_shape s) c.climbing-shape.result rows c.index-rows-objective_row.result c.objective_row.result c.slack_column-first.result (map value c.in_ok-strict.strict.items) c.requires.end.tableau.rows_of_shape c.climbing-shape.ensures.value c.objective_row.ensures c.index-rows-objective_row.is c.slack_column-first.ensures c.in_ok-strict.ensures.exact in
    let all = with_zero value s rows c.in_ok-strict.strict.items c.insert.new.self.items c.ZERO.result c.in_ok-insert.ensures.items (ap value c.ZERO.ensures ∙ g.met.W.Word.value_of_zero) is_strict in
    climbed_not_negative value s rows c.insert.new.self.items c.as_slice-2.result.now c.as_slice-2.ensures.value all c.requires.end.optimal

pub returns-in_err-test_columns-clause-exact : goal.returns-in_err-test_columns-clause-exact
returns-in_err-test_columns-clause-exact g c =
    let value = g.W.Word.value in
    let s = c.args.s.now in
    let rows = c.args.rows.now in
    let is_weak = weak_read (climbing_shape s) c.climbing-shape.result rows c.index-rows-objective_row.result c.objective_row.result c.slack_column.result (map value c.in_ok-weak.weak.items) c.requires.end.tableau.rows_of_shape c.climbing-shape.ensures.value c.objective_row.ensures c.index-rows-objective_row.is c.slack_column.ensures c.in_ok-weak.ensures.exact in
    let is_strict = strict_read (climbing_shape s) c.climbing-shape.result rows c.index-rows-objective_row.result c.objective_row.result c.slack_column-first.result (map value c.in_ok-strict.strict.items) c.requires.end.tableau.rows_of_shape c.climbing-shape.ensures.value c.objective_row.ensures c.index-rows-objective_row.is c.slack_column-first.ensures c.in_ok-strict.ensures.exact in
    let all = with_zero value s rows c.in_ok-strict.strict.items c.insert.new.self.items c.ZERO.result c.in_ok-insert.ensures.items (ap value c.ZERO.ensures ∙ g.met.W.Word.value_of_zero) is_strict in
    let read : AreMultipliers value s rows c.as_slice.result.now c.as_slice-2.result.now = record { weak_are = ap (map value) c.as_slice.ensures.value ∙ is_weak; strict_are = ap (map value) c.as_slice-2.ensures.value ∙ all } in
    let exit = err_from_is_err_and c.from_residual-in_err-test_columns.result c.from_residual-in_err-test_columns.ensures.1 in
    rw (exit.1, exit.2) (columns_fault {V = List ℤ × List ℤ} value g.W.Word.most s c.args.top.now rows c.as_slice.result.now c.as_slice-2.result.now tt (weak_multipliers_at (climbing_shape s) rows, climbed_strict s rows) _ read c.in_err-test_columns.ensures)

pub returns-clause-exact : goal.returns-clause-exact
returns-clause-exact g c =
    let value = g.W.Word.value in
    let s = c.args.s.now in
    let rows = c.args.rows.now in
    let is_weak = weak_read (climbing_shape s) c.climbing-shape.result rows c.index-rows-objective_row.result c.objective_row.result c.slack_column.result (map value c.in_ok-weak.weak.items) c.requires.end.tableau.rows_of_shape c.climbing-shape.ensures.value c.objective_row.ensures c.index-rows-objective_row.is c.slack_column.ensures c.in_ok-weak.ensures.exact in
    let is_strict = strict_read (climbing_shape s) c.climbing-shape.result rows c.index-rows-objective_row.result c.objective_row.result c.slack_column-first.result (map value c.in_ok-strict.strict.items) c.requires.end.tableau.rows_of_shape c.climbing-shape.ensures.value c.objective_row.ensures c.index-rows-objective_row.is c.slack_column-first.ensures c.in_ok-strict.ensures.exact in
    let all = with_zero value s rows c.in_ok-strict.strict.items c.insert.new.self.items c.ZERO.result c.in_ok-insert.ensures.items (ap value c.ZERO.ensures ∙ g.met.W.Word.value_of_zero) is_strict in
    let read : AreMultipliers value s rows c.as_slice.result.now c.as_slice-2.result.now = record { weak_are = ap (map value) c.as_slice.ensures.value ∙ is_weak; strict_are = ap (map value) c.as_slice-2.ensures.value ∙ all } in
    multipliers_given value g.W.Word.most s c.args.top.now rows c.as_slice.result.now c.as_slice-2.result.now tt tt c.in_ok-numbers_of.field-0 c.in_ok-numbers_of-2.field-0 read c.in_ok-test_columns.ensures
    (c.in_ok-numbers_of.ensures ∙ ap (map value) (c.as_slice-3.ensures.value ∙ sym c.as_slice.ensures.value))
    (c.in_ok-numbers_of-2.ensures ∙ ap (map value) (c.as_slice-4.ensures.value ∙ sym c.as_slice-2.ensures.value))

pub returns-clause-narrow : goal.returns-clause-narrow
returns-clause-narrow g c =
    let value = g.W.Word.value in
    let most = g.W.Word.most in
    let zero = ap value c.ZERO.ensures ∙ g.met.W.Word.value_of_zero in (
      words_narrow value most c.in_ok-weak.weak.items c.in_ok-numbers_of.field-0 (c.in_ok-numbers_of.ensures ∙ ap (map value) c.as_slice-3.ensures.value) c.in_ok-weak.ensures.within,
      words_narrow value most c.insert.new.self.items c.in_ok-numbers_of-2.field-0 (c.in_ok-numbers_of-2.ensures ∙ ap (map value) c.as_slice-4.ensures.value)
          (with_zero_within value most c.in_ok-strict.strict.items c.insert.new.self.items c.ZERO.result c.in_ok-insert.ensures.items zero c.in_ok-strict.ensures.within),
    )
