use Rattle.ror_work_ranks.proofs.RanksLaws.{written_proved, written_not_rejected}
use Rattle.ror_work_ranks.proofs.laws.written_is_accepted.Goals as goal

pub returns : goal.returns
returns c = record { proved = written_proved; not_rejected = written_not_rejected }
