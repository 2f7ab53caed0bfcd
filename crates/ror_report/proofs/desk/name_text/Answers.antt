use Rattle.std.proofs.Common.{sym}
use Rattle.ror_report.proofs.DeskLemmas.{name_is_utf8}
use Rattle.ror_report.proofs.desk.name_text.Goals as goal

pub returns-in-Err : goal.returns-in-Err
returns-in-Err c = absurd (c.in-Err.ensures.cases.0 (name_is_utf8 c.args.word.now (sym c.if-not-may_name.ensures)))
