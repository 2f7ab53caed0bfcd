use Rattle.ror_group.proofs.Groups.{one_group_answer, no_judges}
use Rattle.ror_group.proofs.laws.one_group_answer.Goals as goal

pub returns-clause-one : goal.returns-clause-one
returns-clause-one c = one_group_answer

pub returns-clause-none : goal.returns-clause-none
returns-clause-none c = no_judges
