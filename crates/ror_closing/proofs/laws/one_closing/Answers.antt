use Rattle.ror_closing.proofs.LawLemmas.{one_closing, closes_reports, closes_replays}
use Rattle.ror_closing.proofs.Existence.{have_closing}
use Rattle.ror_closing.proofs.laws.one_closing.Goals as goal

pub returns-clause-some : goal.returns-clause-some
returns-clause-some c = have_closing

pub returns-clause-one : goal.returns-clause-one
returns-clause-one c = one_closing

pub returns-clause-reports : goal.returns-clause-reports
returns-clause-reports c = closes_reports

pub returns-clause-replays : goal.returns-clause-replays
returns-clause-replays c = closes_replays
