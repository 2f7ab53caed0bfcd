use Rattle.ror_text.specs.Cursor.{cursor_at}
use Rattle.ror_show_forms.specs.Reading.{certificate_at}
use Rattle.ror_show_forms.proofs.ListLoops.{misread_there, misread_pure}
use Rattle.ror_show_forms.proofs.list.certificate_in.Goals as goal

pub returns-in-Err-clause-exact : goal.returns-in-Err-clause-exact
returns-in-Err-clause-exact c =
    rw c.misread.ensures (misread_there c.args.bytes.now c.args.block c.in-Err.fault (certificate_at c.args.table.now (cursor_at c.args.bytes.now c.args.from)) c.in-Err.ensures.exact)

pub returns-in-Err-clause-pure : goal.returns-in-Err-clause-pure
returns-in-Err-clause-pure c = rw c.misread.ensures (misread_pure c.args.bytes.now c.args.block c.in-Err.fault)
