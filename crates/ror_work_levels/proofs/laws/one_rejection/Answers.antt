use Rattle.ror_work_levels.proofs.SpanLaws.{entries_have_one_reason, bytes_have_one_rejection}
use Rattle.ror_work_levels.proofs.laws.one_rejection.Goals as goal

pub returns : goal.returns
returns c = record { entries = entries_have_one_reason; bytes = bytes_have_one_rejection }
