use Rattle.std.proofs.Common.{rules, ◌<◌, length, map}
use Rattle.ror_value.specs.Over.{IsLawfulIn}
use Rattle.ror_history.specs.History.{statements_of}
use Rattle.ror_bench.specs.Bench.{pivots_together}
use Rattle.ror_bench.proofs.DeskLemmas.{at_bench, kept_at}
use Rattle.ror_bench.proofs.LawfulLemmas.{lawful_now}
use Rattle.ror_bench.proofs.bench.Bench.standing.Goals as goal

pub returns-clause-lawful : goal.returns-clause-lawful
returns-clause-lawful c =
    let t = c.self.inside.table in
    let p = pivots_together c.self.inside.search.engine.pivots c.self.inside.search.repair_pivots in
    let views = c.self.inside.desks.items in
    let here = c.index.result.now in
    let within : c.args.desk < length (map (λ h. h.state) views) = search rules in
    at_bench (λ t r. IsLawfulIn t (statements_of r)) t p views c.args.desk here c.args.self.now within c.index.ensures c.self.view_is
    (lawful_now t here.state (kept_at t views c.args.desk here c.self.invariant.lawful within c.index.ensures))
