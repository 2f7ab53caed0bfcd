use Rattle.ror_bench.proofs.ApartLemmas.{stand_apart, desk_by_desk}
use Rattle.ror_bench.specs.Allowed.{given_at, proved_unless_wide}
use Rattle.ror_bench.proofs.AgreeLemmas.{agree, narrow_concludes, narrow_repairs}
use Rattle.ror_bench.proofs.NarrowLemmas.{narrow_agree}
use Rattle.ror_bench.proofs.laws.desks_apart.Goals as goal

pub returns-clause-apart : goal.returns-clause-apart
returns-clause-apart c = stand_apart

pub returns-clause-desk_by_desk : goal.returns-clause-desk_by_desk
returns-clause-desk_by_desk c = desk_by_desk proved_unless_wide

pub returns-clause-agree : goal.returns-clause-agree
returns-clause-agree c = agree

pub returns-clause-given : goal.returns-clause-given
returns-clause-given c most = desk_by_desk (given_at most)

pub returns-clause-narrow : goal.returns-clause-narrow
returns-clause-narrow c = narrow_concludes

pub returns-clause-narrow_repairs : goal.returns-clause-narrow_repairs
returns-clause-narrow_repairs c = narrow_repairs

pub returns-clause-narrow_agree : goal.returns-clause-narrow_agree
returns-clause-narrow_agree c = narrow_agree
