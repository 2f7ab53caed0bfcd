use Rattle.std.proofs.Common.{map, sym}
use Rattle.ror_rows.specs.Rows.{comparison_of_extra}
use Rattle.ror_check.proofs.FewRows.{shown_beside}
use Rattle.ror_check.proofs.few.is_shown_by_few.Goals as goal

pub returns-else-is_err-clause-shown : goal.returns-else-is_err-clause-shown
returns-else-is_err-clause-shown c = shown_beside c.args.table.now c.args.base.now.system (map comparison_of_extra c.args.extras.now) c.args.certificate.now c.in-Solution.solution c.accept.result c.holds_beside.result c.in-Solution.is (sym c.if-is_err.ensures.value) c.accept.ensures.accepted c.holds_beside.ensures
