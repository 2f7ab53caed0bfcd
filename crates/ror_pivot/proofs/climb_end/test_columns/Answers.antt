-- Column by column neither number is too wide, or one is the first that is.
use Rattle.std.proofs.Common.{◌∙◌, ◌++◌, ◌<◌, ◌*ℤ◌, map, pos, FitsSigned, rules, arith}
use Rattle.std.specs.Int.{w128}
use Rattle.std.proofs.lemmas.Int.{to_z-of_z}
use Rattle.std.proofs.lemmas.Result.{err_from_is_err_and}
use Rattle.ror_integers.specs.Vectors.{absolute_dot, total, entry, column}
use Rattle.ror_integers.proofs.Signs.{total_nonnegative}
use Rattle.ror_system.specs.Acceptance.{rows_of}
use Rattle.ror_pivot.specs.declared.fault.ClimbStop.TheVariants.{Wide}
use Rattle.ror_pivot.specs.declared.optimum.ClimbPlace.TheVariants.{Scale, ColumnSum}
use Rattle.ror_pivot.specs.Climbing.{columns_from}
use Rattle.ror_pivot.proofs.CappedSystems.{entry_of_tops}
use Rattle.ror_pivot.proofs.ReadingLemmas.{value_by_numbers}
use Rattle.ror_pivot.proofs.MultiplierLemmas.{sum_given, sum_not_given}
use Rattle.ror_pivot.proofs.ClimbReadings.{scale_exact, stop_named, tested_none, scale_wide, sum_wide, tested_more, tested_all}
use Rattle.ror_pivot.proofs.climb_end.test_columns.Goals as goal

pub loop-j-init : goal.loop-j-init
loop-j-init g c = tested_none g.W.Word.most c.args.s.now c.args.top.now (map g.W.Word.value c.args.weak.now) (map g.W.Word.value c.args.strict.now)

pub returns-in_err-ok_or : goal.returns-in_err-ok_or
returns-in_err-ok_or g c =
    let value = g.W.Word.value in
    let most = g.W.Word.most in
    let s = c.args.s.now in
    let tops = c.args.top.now in
    let weak = map value c.args.weak.now in
    let strict = map value c.args.strict.now in
    let j = c.loop-j.j in
    let within : j < s.columns = (let l = c.loop-j-test.true in let e = c.columns-j-end.ensures.value in omega arith) in
    let f : FitsSigned w128 c.entry.result = search rules in
    let scaled = scale_exact value most c.sum_of-sum.result c.scale.result _ (entry tops j) (total strict) (to_z-of_z w128 c.entry.result f ∙ c.entry.ensures.value) (entry_of_tops s.columns tops j within c.requires.tops) (total_nonnegative strict c.requires.strict_not_negative) c.sum_of-sum.ensures c.scale.ensures in
    let over = sum_not_given value most c.scale.result (Wide (Scale j)) c.in_err-ok_or.field-0.0 (entry tops j *ℤ total strict) c.in_err-ok_or.ensures.value scaled in
    let exit = err_from_is_err_and c.from_residual.result c.from_residual.ensures.1 in
    rw (exit.1, exit.2) (stop_named most (columns_from s tops weak strict 0 s.columns) tt (Scale j) c.in_err-ok_or.field-0.0 over.0 (scale_wide most s tops weak strict j within over.1 c.loop-j.invariant))

pub returns-in_err-ok_or-2 : goal.returns-in_err-ok_or-2
returns-in_err-ok_or-2 g c =
    let value = g.W.Word.value in
    let most = g.W.Word.most in
    let s = c.args.s.now in
    let tops = c.args.top.now in
    let weak = map value c.args.weak.now in
    let strict = map value c.args.strict.now in
    let j = c.loop-j.j in
    let within : j < s.columns = (let l = c.loop-j-test.true in let e = c.columns-j-end.ensures.value in omega arith) in
    let f : FitsSigned w128 c.entry.result = search rules in
    let scaled = scale_exact value most c.sum_of-sum.result c.scale.result _ (entry tops j) (total strict) (to_z-of_z w128 c.entry.result f ∙ c.entry.ensures.value) (entry_of_tops s.columns tops j within c.requires.tops) (total_nonnegative strict c.requires.strict_not_negative) c.sum_of-sum.ensures c.scale.ensures in
    let narrow = sum_given value most c.scale.result (Wide (Scale j)) c.in_ok-ok_or.field-0 (entry tops j *ℤ total strict) c.in_ok-ok_or.ensures.value scaled in
    let over = sum_not_given value most c.column_sum.result (Wide (ColumnSum j)) c.in_err-ok_or-2.field-0.0 (pos (absolute_dot (weak ++ strict) (column (rows_of s) j))) c.in_err-ok_or-2.ensures.value c.column_sum.ensures in
    let exit = err_from_is_err_and c.from_residual-in_err-ok_or-2.result c.from_residual-in_err-ok_or-2.ensures.1 in
    rw (exit.1, exit.2) (stop_named most (columns_from s tops weak strict 0 s.columns) tt (ColumnSum j) c.in_err-ok_or-2.field-0.0 over.0 (sum_wide most s tops weak strict j within narrow over.1 c.loop-j.invariant))

pub loop-j-preserved : goal.loop-j-preserved
loop-j-preserved g c =
    let value = g.W.Word.value in
    let most = g.W.Word.most in
    let s = c.args.s.now in
    let tops = c.args.top.now in
    let weak = map value c.args.weak.now in
    let strict = map value c.args.strict.now in
    let j = c.loop-j.j in
    let within : j < s.columns = (let l = c.loop-j-test.true in let e = c.columns-j-end.ensures.value in omega arith) in
    let f : FitsSigned w128 c.entry.result = search rules in
    let scaled = scale_exact value most c.sum_of-sum.result c.scale.result _ (entry tops j) (total strict) (to_z-of_z w128 c.entry.result f ∙ c.entry.ensures.value) (entry_of_tops s.columns tops j within c.requires.tops) (total_nonnegative strict c.requires.strict_not_negative) c.sum_of-sum.ensures c.scale.ensures in
    let narrow = sum_given value most c.scale.result (Wide (Scale j)) c.in_ok-ok_or.field-0 (entry tops j *ℤ total strict) c.in_ok-ok_or.ensures.value scaled in
    let sum = sum_given value most c.column_sum.result (Wide (ColumnSum j)) c.in_ok-ok_or-2.field-0 (pos (absolute_dot (weak ++ strict) (column (rows_of s) j))) c.in_ok-ok_or-2.ensures.value c.column_sum.ensures in
    tested_more most s tops weak strict j within narrow sum c.loop-j.invariant

pub returns : goal.returns
returns g c =
    let value = g.W.Word.value in
    let most = g.W.Word.most in
    let s = c.args.s.now in
    let weak = map value c.args.weak.now in
    let strict = map value c.args.strict.now in
    value_by_numbers most (columns_from s c.args.top.now weak strict 0 s.columns) tt
    (tested_all most s c.args.top.now weak strict c.loop-j.j (let l = c.loop-j-test.false in let e = c.columns-j-end.ensures.value in omega arith) c.loop-j.invariant)
