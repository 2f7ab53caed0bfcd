use Rattle.std.proofs.Common.{List, ℤ, length, ap, ◌∙◌, arith}
use Rattle.std.proofs.lemmas.Result.{err_from_is_err_and}
use Rattle.ror_integers.proofs.Signs.{NoneNegative-append_right}
use Rattle.ror_discriminate.proofs.Margins.{some_second}
use Rattle.ror_discriminate.proofs.OptimalTests.{weights_first, columns_start, columns_more, column_first, weight_first, accepted}
use Rattle.ror_discriminate.proofs.check.check_system.Goals as goal

pub returns-in_err-check_weights : goal.returns-in_err-check_weights
returns-in_err-check_weights c =
    let s = c.args.s.now in
    let count = ap (λ (rows : List (List ℤ)). length rows) c.strict.ensures.value in
    let rows = some_second s.strict _ c.strict.ensures.form.total_row (λ one. c.if-strict-eq1.false (count ∙ one)) in
    let measured = c.in_ok-margin.ensures in
    let p = err_from_is_err_and c.from_residual-in_err-check_weights.result c.from_residual-in_err-check_weights.ensures.1 in
    rw (p.1, p.2) (weights_first s c.args.top.now c.args.x.now rows measured.accepted measured.total_within _ c.in_err-check_weights.ensures)

pub positive_total-requires : goal.positive_total-requires
positive_total-requires c =
    let m = c.args.x.now.multipliers in
    NoneNegative-append_right m.weak m.strict c.in_ok-check_weights.ensures.form.none_negative

pub returns-in_default : goal.returns-in_default
returns-in_default c =
    let s = c.args.s.now in
    let top = c.args.top.now in
    let x = c.args.x.now in
    let count = ap (λ (rows : List (List ℤ)). length rows) c.strict.ensures.value in
    let rows = some_second s.strict _ c.strict.ensures.form.total_row (λ one. c.if-strict-eq1.false (count ∙ one)) in
    let measured = c.in_ok-margin.ensures in
    weight_first s top x c.requires.tops (columns_start s top x rows measured.accepted measured.total_within c.in_ok-check_weights.ensures) c.in_default.ensures

pub returns-in_err-check_column : goal.returns-in_err-check_column
returns-in_err-check_column c =
    let p = err_from_is_err_and c.from_residual-in_err-check_column.result c.from_residual-in_err-check_column.ensures.1 in
    rw (p.1, p.2) (column_first c.args.s.now c.args.top.now c.args.x.now c.loop-column.column _ c.loop-column.invariant c.in_err-check_column.ensures)

pub loop-column-preserved : goal.loop-column-preserved
loop-column-preserved c = columns_more c.args.s.now c.args.top.now c.args.x.now c.loop-column.column c.loop-column.invariant c.in_ok-check_column.ensures

pub returns : goal.returns
returns c = (
  accepted c.args.s.now c.args.top.now c.args.x.now c.loop-column.column c.loop-column.invariant (omega (arith, c.loop-column-test.false, c.columns-column-end.ensures.value)),
  c.in_ok-margin.ensures.margin,
)
