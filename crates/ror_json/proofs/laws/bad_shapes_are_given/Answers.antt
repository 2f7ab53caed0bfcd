use Rattle.ror_json.proofs.ReportLaws.{fault_iff_bad, bad_iff_no_form}
use Rattle.ror_json.proofs.laws.bad_shapes_are_given.Goals as goal

pub returns-clause-given : goal.returns-clause-given
returns-clause-given c = fault_iff_bad

pub returns-clause-no_form : goal.returns-clause-no_form
returns-clause-no_form c = bad_iff_no_form
