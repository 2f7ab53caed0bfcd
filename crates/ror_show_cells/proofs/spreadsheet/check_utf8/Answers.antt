use Rattle.std.proofs.Common.{refl}
use Rattle.ror_table.proofs.PlainLemmas.{is_utf8-true, is_utf8-false}
use Rattle.ror_show_cells.proofs.spreadsheet.check_utf8.Goals as goal

pub returns-in-None : goal.returns-in-None
returns-in-None c = rw (is_utf8-true c.args.bytes.now c.in-None.ensures) refl

pub returns-in-Some : goal.returns-in-Some
returns-in-Some c =
    let e = c.in-Some.ensures in
    rw (c.bad.ensures, is_utf8-false c.args.bytes.now e.0, e.1) refl
