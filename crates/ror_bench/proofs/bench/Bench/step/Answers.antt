use Rattle.std.proofs.Common.{rules, ℕ, ◌≡◌, ◌<◌, ◌^◌, ◌-◌, length, map, refl, sym, ap, subst, ◌∙◌}
use Rattle.std.proofs.lemmas.Result.{err_from_is_err_and}
use Rattle.ror_pivot.specs.Answers.{most_of}
use Rattle.ror_history.specs.History.{Revisions, next_number}
use Rattle.ror_bench.specs.Allowed.{given_at}
use Rattle.ror_bench.specs.Bench.{Workbench, revisions_at, IsLawfulThroughout, pivots_together}
use Rattle.ror_bench.specs.Blocks.{IsBlockOf, HasText}
use Rattle.ror_bench.proofs.DeskLemmas.{at_bench, kept_at, kept_set, state_here, bench_moves, bench_stays}
use Rattle.ror_bench.proofs.LawfulLemmas.{lawful_now, moved_lawful}
use Rattle.ror_bench.proofs.PrintableLemmas.{has_text}
use Rattle.ror_bench.proofs.RoomLemmas.{spare_old, leaves_room}
use Rattle.ror_bench.proofs.bench.Bench.step.Goals as goal

pub returns-in_err-body-clause-kept : goal.returns-in_err-body-clause-kept
returns-in_err-body-clause-kept c =
    let exit = err_from_is_err_and c.from_residual.result c.from_residual.ensures.1 in
    rw exit.1 (bench_stays c.self.inside.table (pivots_together c.self.inside.search.engine.pivots c.self.inside.search.repair_pivots) (pivots_together c.perform.new.search.engine.pivots c.perform.new.search.repair_pivots) c.self.inside.desks.items c.args.line.now.desk c.index_mut-history.result.now c.perform.new.history c.args.self.now c.index_mut-history.ensures.value c.self.view_is c.in_err-body.ensures.kept)

pub invariant_of-self-2 : goal.invariant_of-self-2
invariant_of-self-2 c =
    let t = c.self.inside.table in
    let views = c.self.inside.desks.items in
    let old = c.index_mut-history.result.now in
    let within : c.args.line.now.desk < length (map (λ h. h.state) views) = search rules in
    let given = given_at (most_of c.args.bits) in
    let lawful = kept_at t views c.args.line.now.desk old c.self.invariant.lawful within c.index_mut-history.ensures.value in
    record {
      lawful = kept_set t views c.args.line.now.desk c.perform.new.history c.self.invariant.lawful (subst (IsLawfulThroughout t) (sym c.in_ok-body.ensures.moved) (moved_lawful given t old.state c.args.line.now.command c.in_ok-body.body lawful c.in_ok-body.ensures.body));
      checker = c.self.invariant.checker;
    }

pub returns-clause-block : goal.returns-clause-block
returns-clause-block c =
    let given = given_at (most_of c.args.bits) in
    let views = c.self.inside.desks.items in
    let within : c.args.line.now.desk < length (map (λ h. h.state) views) = search rules in
    at_bench (λ t r. IsBlockOf given t r c.args.line.now (record { line = c.args.line.now.number; body = c.in_ok-body.body })) c.self.inside.table (pivots_together c.self.inside.search.engine.pivots c.self.inside.search.repair_pivots) views c.args.line.now.desk c.index_mut-history.result.now c.args.self.now within c.index_mut-history.ensures.value c.self.view_is
    (record { number = refl; body = c.in_ok-body.ensures.body })

pub returns-clause-text : goal.returns-clause-text
returns-clause-text c =
    let t = c.self.inside.table in
    let views = c.self.inside.desks.items in
    let old = c.index_mut-history.result.now in
    let line = c.args.line.now in
    let within : line.desk < length (map (λ h. h.state) views) = search rules in
    let lawful = lawful_now t old.state (kept_at t views line.desk old c.self.invariant.lawful within c.index_mut-history.ensures.value) in
    let here : old.state ≡ revisions_at c.args.self.now line.desk = state_here t (pivots_together c.self.inside.search.engine.pivots c.self.inside.search.repair_pivots) views line.desk old within c.index_mut-history.ensures.value ∙ ap (λ (b : Workbench). revisions_at b line.desk) c.self.view_is in
    let number = subst (λ (r : Revisions). next_number r < 2 ^ 32 - 1) (sym here) c.requires.number in
    let small : line.number < 2 ^ 32 = search rules in
    at_bench (λ t r. HasText t (record { line = line.number; body = c.in_ok-body.body })) t (pivots_together c.self.inside.search.engine.pivots c.self.inside.search.repair_pivots) views line.desk old c.args.self.now within c.index_mut-history.ensures.value c.self.view_is
    (has_text c.args.bits t old.state c.alternatives.ensures.table lawful number line (record { line = line.number; body = c.in_ok-body.body }) small (record { number = refl; body = c.in_ok-body.ensures.body }))

pub returns-clause-moved : goal.returns-clause-moved
returns-clause-moved c =
    let views = c.self.inside.desks.items in
    let within : c.args.line.now.desk < length (map (λ h. h.state) views) = search rules in
    bench_moves c.self.inside.table (pivots_together c.self.inside.search.engine.pivots c.self.inside.search.repair_pivots) (pivots_together c.perform.new.search.engine.pivots c.perform.new.search.repair_pivots) views c.args.line.now (record { line = c.args.line.now.number; body = c.in_ok-body.body }) c.index_mut-history.result.now c.perform.new.history c.args.self.now within c.index_mut-history.ensures.value c.self.view_is c.in_ok-body.ensures.moved

pub returns-in_err-body-clause-ready : goal.returns-in_err-body-clause-ready
returns-in_err-body-clause-ready c =
    let exit = err_from_is_err_and c.from_residual.result c.from_residual.ensures.1 in
    let views = c.self.inside.desks.items in
    let within : c.args.line.now.desk < length (map (λ h. h.state) views) = search rules in
    let p = pivots_together c.self.inside.search.engine.pivots c.self.inside.search.repair_pivots in
    let here = spare_old c.self.inside.table p p views c.args.line.now.desk c.index_mut-history.result.now c.perform.new.history c.args.self.now within c.index_mut-history.ensures.value c.self.view_is in
    rw exit.1 (λ some plain. c.in_err-body.ensures.ready (subst (λ (n : ℕ). 0 < n) (sym here) some) plain)

pub returns-in_err-body-clause-room : goal.returns-in_err-body-clause-room
returns-in_err-body-clause-room c =
    let views = c.self.inside.desks.items in
    let within : c.args.line.now.desk < length (map (λ h. h.state) views) = search rules in
    leaves_room c.self.inside.table (pivots_together c.self.inside.search.engine.pivots c.self.inside.search.repair_pivots) (pivots_together c.perform.new.search.engine.pivots c.perform.new.search.repair_pivots) views c.args.line.now c.index_mut-history.result.now c.perform.new.history c.args.self.now within c.index_mut-history.ensures.value c.self.view_is c.in_err-body.ensures.room

pub returns-clause-room : goal.returns-clause-room
returns-clause-room c =
    let views = c.self.inside.desks.items in
    let within : c.args.line.now.desk < length (map (λ h. h.state) views) = search rules in
    leaves_room c.self.inside.table (pivots_together c.self.inside.search.engine.pivots c.self.inside.search.repair_pivots) (pivots_together c.perform.new.search.engine.pivots c.perform.new.search.repair_pivots) views c.args.line.now c.index_mut-history.result.now c.perform.new.history c.args.self.now within c.index_mut-history.ensures.value c.self.view_is c.in_ok-body.ensures.room
