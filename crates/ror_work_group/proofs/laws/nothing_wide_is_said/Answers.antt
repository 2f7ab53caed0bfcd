use Rattle.ror_work_group.proofs.GroupLaws.{done_nothing_wide, accepted_nothing_wide}
use Rattle.ror_work_group.proofs.laws.nothing_wide_is_said.Goals as goal

pub returns : goal.returns
returns c = record { written = done_nothing_wide; accepted = accepted_nothing_wide }
