use Rattle.std.proofs.Common.{subst}
use Rattle.ror_bench.specs.Bench.{IsLawfulBench}
use Rattle.ror_bench.proofs.DeskLemmas.{lawful_states}
use Rattle.ror_bench.proofs.bench.Bench.table.Goals as goal

pub returns-clause-lawful : goal.returns-clause-lawful
returns-clause-lawful c = subst IsLawfulBench c.self.view_is (lawful_states c.self.inside.table c.self.inside.desks.items c.self.invariant.lawful)
