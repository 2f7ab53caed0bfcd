use Rattle.ror_json.proofs.ReportLaws.{read_is_form, printed_is_formed}
use Rattle.ror_json.proofs.laws.forms_are_read.Goals as goal

pub returns-clause-read : goal.returns-clause-read
returns-clause-read c = read_is_form

pub returns-clause-printed : goal.returns-clause-printed
returns-clause-printed c = printed_is_formed
