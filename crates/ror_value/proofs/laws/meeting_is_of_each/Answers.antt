use Rattle.ror_value.proofs.MeetingEach.{meets_each, each_meets}
use Rattle.ror_value.proofs.laws.meeting_is_of_each.Goals as goal

pub returns : goal.returns
returns c t w list = (meets_each t w list, each_meets t w list)
