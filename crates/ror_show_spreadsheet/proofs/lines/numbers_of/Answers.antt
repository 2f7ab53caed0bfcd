use Rattle.std.proofs.Common.{◌<◌, length, arith}
use Rattle.std.proofs.lemmas.Result.{err_from_is_err_and}
use Rattle.ror_show_cells.specs.Faults.{sheet_fault}
use Rattle.ror_show_spreadsheet.specs.Import.{numbers_of, numbers_with, number_at}
use Rattle.ror_show_spreadsheet.proofs.Loops.{range_on, range_exit}
use Rattle.ror_show_spreadsheet.proofs.lines.numbers_of.Goals as goal

pub returns-in_err-add_number-clause-exact : goal.returns-in_err-add_number-clause-exact
unfolding numbers_of
returns-in_err-add_number-clause-exact c =
    let p = err_from_is_err_and c.from_residual.result c.from_residual.ensures.1 in
    let less = rw c.width-place-end.ensures at c.loop-place-test.true in
    rw (p.1, p.2) (range_exit sheet_fault (number_at c.args.numerals c.args.number c.args.row.now) (numbers_with c.loop-place.numbers) c.loop-place.place (length c.args.row.now) _ _ less c.loop-place.invariant.same (rw c.cell.ensures at c.in_err-add_number.ensures.exact))

pub loop-place-preserved : goal.loop-place-preserved
loop-place-preserved c =
    let inv = c.loop-place.invariant in
    let less : c.loop-place.place < length c.args.row.now = rw c.width-place-end.ensures at c.loop-place-test.true in
    let more = c.in_ok-add_number.ensures in
    record {
      same = range_on (number_at c.args.numerals c.args.number c.args.row.now) (numbers_with c.loop-place.numbers) _ c.loop-place.place (length c.args.row.now) _ less (rw c.cell.ensures at more.exact) inv.same;
      low = omega arith;
      within = λ some. omega arith;
      count = omega (arith, more.count, inv.count);
      amounts = more.amounts inv.amounts;
    }

pub returns-clause-count : goal.returns-clause-count
returns-clause-count c =
    let inv = c.loop-place.invariant in
    let ended = rw c.width-place-end.ensures at c.loop-place-test.false in
    grind (arith, inv.count, inv.low, inv.within, ended)
