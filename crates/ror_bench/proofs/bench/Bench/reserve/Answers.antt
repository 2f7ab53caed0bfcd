use Rattle.std.proofs.Common.{rules, ◌<◌, length, map, sym, subst}
use Rattle.ror_bench.specs.Bench.{IsLawfulThroughout, pivots_together}
use Rattle.ror_bench.proofs.DeskLemmas.{kept_at, kept_set, bench_stays}
use Rattle.ror_bench.proofs.RoomLemmas.{room_made, room_kept}
use Rattle.ror_bench.proofs.bench.Bench.reserve.Goals as goal

pub invariant_of-self : goal.invariant_of-self
invariant_of-self c =
    let t = c.self.inside.table in
    let views = c.self.inside.desks.items in
    let within : c.args.desk < length (map (λ h. h.state) views) = search rules in
    let lawful = kept_at t views c.args.desk c.index_mut-history.result.now c.self.invariant.lawful within c.index_mut-history.ensures.value in
    record {
      lawful = kept_set t views c.args.desk c.reserve.new.self c.self.invariant.lawful (subst (IsLawfulThroughout t) (sym c.reserve.ensures.unchanged) lawful);
      checker = c.self.invariant.checker;
    }

pub returns-clause-room : goal.returns-clause-room
returns-clause-room c =
    let views = c.self.inside.desks.items in
    let p = pivots_together c.self.inside.search.engine.pivots c.self.inside.search.repair_pivots in
    let within : c.args.desk < length (map (λ h. h.state) views) = search rules in
    room_made c.self.inside.table p p views c.args.desk c.index_mut-history.result.now c.reserve.new.self c.args.self.now within c.index_mut-history.ensures.value c.self.view_is c.args.revisions c.reserve.result c.reserve.ensures.room

pub returns-clause-kept : goal.returns-clause-kept
returns-clause-kept c =
    let p = pivots_together c.self.inside.search.engine.pivots c.self.inside.search.repair_pivots in
    bench_stays c.self.inside.table p p c.self.inside.desks.items c.args.desk c.index_mut-history.result.now c.reserve.new.self c.args.self.now c.index_mut-history.ensures.value c.self.view_is c.reserve.ensures.unchanged

pub returns-clause-no_less : goal.returns-clause-no_less
returns-clause-no_less c =
    let views = c.self.inside.desks.items in
    let p = pivots_together c.self.inside.search.engine.pivots c.self.inside.search.repair_pivots in
    let within : c.args.desk < length (map (λ h. h.state) views) = search rules in
    room_kept c.self.inside.table p p views c.args.desk c.index_mut-history.result.now c.reserve.new.self c.args.self.now within c.index_mut-history.ensures.value c.self.view_is c.reserve.ensures.kept
