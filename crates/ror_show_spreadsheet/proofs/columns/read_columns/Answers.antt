use Rattle.std.proofs.Common.{◌≡◌, ◌-◌, ◌<◌, length, arith, refl, ap}
use Rattle.std.specs.List.{range_with_len}
use Rattle.std.specs.Option.{option_map}
use Rattle.std.proofs.lemmas.Result.{err_from_is_err_and}
use Rattle.ror_text.specs.Reading.{read_all}
use Rattle.ror_show_cells.specs.Faults.{sheet_fault}
use Rattle.ror_show_spreadsheet.specs.Import.{Reading, begun, column_at, reading_with}
use Rattle.ror_show_spreadsheet.specs.Options.{options_with}
use Rattle.ror_show_spreadsheet.proofs.Loops.{range_on, range_exit}
use Rattle.ror_show_spreadsheet.proofs.columns.read_columns.Goals as goal

pub loop-place-init : goal.loop-place-init
loop-place-init c =
    let step = column_at (options_with c.args.options.now) c.args.head.now (option_map (λ row. row.now) c.args.words) in
    let starts : reading_with (record { draft = c.new.result; text = c.in_ok-from_slice.field-0 }) ≡ begun = rw (c.new.ensures, c.in_ok-from_slice.ensures.items) refl in
    record {
      same = ap (λ (x : Reading). read_all step x (range_with_len 1 (length c.args.head.now - 1))) starts;
      first = rw c.new.ensures refl;
      within = c.requires;
      number = rw c.new.ensures refl;
    }

pub returns-in_err-add_column-clause-exact : goal.returns-in_err-add_column-clause-exact
returns-in_err-add_column-clause-exact c =
    let step = column_at (options_with c.args.options.now) c.args.head.now (option_map (λ row. row.now) c.args.words) in
    let p = err_from_is_err_and c.from_residual-in_err-add_column.result c.from_residual-in_err-add_column.ensures.1 in
    let less = rw c.width-place-end.ensures at c.loop-place-test.true in
    rw (p.1, p.2) (range_exit sheet_fault step (reading_with c.loop-place.reading) c.loop-place.place (length c.args.head.now) _ _ less c.loop-place.invariant.same (rw (c.cell.ensures, c.word_in-word.ensures) at c.in_err-add_column.ensures.exact))

pub loop-place-preserved : goal.loop-place-preserved
loop-place-preserved c =
    let step = column_at (options_with c.args.options.now) c.args.head.now (option_map (λ row. row.now) c.args.words) in
    let inv = c.loop-place.invariant in
    let less : c.loop-place.place < length c.args.head.now = rw c.width-place-end.ensures at c.loop-place-test.true in
    let more = c.in_ok-add_column.ensures in
    record {
      same = range_on step (reading_with c.loop-place.reading) _ c.loop-place.place (length c.args.head.now) _ less (rw (c.cell.ensures, c.word_in-word.ensures) at more.exact) inv.same;
      first = more.first;
      within = omega arith;
      number = omega (arith, more.number, inv.number);
    }
