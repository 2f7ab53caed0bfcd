use Rattle.ror_work_levels.proofs.SpanLaws.{first_unfit_lines}
use Rattle.ror_work_levels.proofs.laws.one_first_unfit.Goals as goal

pub returns : goal.returns
returns c = first_unfit_lines
