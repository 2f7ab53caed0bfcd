use Rattle.std.proofs.Common.{rules, ◌<◌, length, map}
use Rattle.std.specs.Prelude.{OnOk, IfErr}
use Rattle.ror_text.specs.FirstFault.{IsRefusedBy}
use Rattle.ror_bench.specs.Allowed.{proved_unless_wide}
use Rattle.ror_bench.specs.declared.bench.BlockFault.TheVariants as faults
use Rattle.ror_bench.specs.Blocks.{IsProvedBlock, IsTrueBlock}
use Rattle.ror_bench.specs.Faults.{FailsBlock, IsEarlierBlockFault}
use Rattle.ror_bench.specs.Bench.{revisions_at, pivots_together}
use Rattle.ror_bench.proofs.AnswerLemmas.{checked_proved, checked_true, checked_refused, none_proved}
use Rattle.ror_bench.proofs.DeskLemmas.{at_bench, kept_at, checked_moves, checked_keeps, checked_lawful}
use Rattle.ror_bench.proofs.LawfulLemmas.{lawful_now}
use Rattle.ror_bench.proofs.RoomLemmas.{room_elsewhere}
use Rattle.ror_bench.proofs.bench.Bench.check_line.Goals as goal

pub invariant_of-self : goal.invariant_of-self
invariant_of-self c =
    let views = c.self.inside.desks.items in
    let within : c.args.line.now.desk < length (map (λ h. h.state) views) = search rules in
    record {
      lawful = checked_lawful c.self.inside.table (pivots_together c.self.inside.search.engine.pivots c.self.inside.search.repair_pivots) views c.args.line.now c.args.block.now c.index_mut-history.result.now c.check.new.history c.args.self.now proved_unless_wide c.check.result c.self.invariant.lawful within c.index_mut-history.ensures.value c.check.ensures.body c.check.ensures.moved c.check.ensures.kept;
      checker = c.check.ensures.checker;
    }

pub returns-clause-accepted : goal.returns-clause-accepted
returns-clause-accepted c =
    let t = c.self.inside.table in
    let views = c.self.inside.desks.items in
    let old = c.index_mut-history.result.now in
    let within : c.args.line.now.desk < length (map (λ h. h.state) views) = search rules in
    at_bench (λ t r. OnOk c.check.result (IsProvedBlock t r c.args.line.now c.args.block.now)) t (pivots_together c.self.inside.search.engine.pivots c.self.inside.search.repair_pivots) views c.args.line.now.desk old c.args.self.now within c.index_mut-history.ensures.value c.self.view_is
    (checked_proved t old.state c.args.line.now c.args.block.now c.check.result c.if-block-line.false c.check.ensures.body)

pub returns-clause-true_block : goal.returns-clause-true_block
returns-clause-true_block c =
    let t = c.self.inside.table in
    let views = c.self.inside.desks.items in
    let old = c.index_mut-history.result.now in
    let within : c.args.line.now.desk < length (map (λ h. h.state) views) = search rules in
    at_bench (λ t r. OnOk c.check.result (IsTrueBlock t r c.args.block.now)) t (pivots_together c.self.inside.search.engine.pivots c.self.inside.search.repair_pivots) views c.args.line.now.desk old c.args.self.now within c.index_mut-history.ensures.value c.self.view_is
    (checked_true t old.state c.args.line.now c.args.block.now c.check.result (lawful_now t old.state (kept_at t views c.args.line.now.desk old c.self.invariant.lawful within c.index_mut-history.ensures.value))
    (checked_proved t old.state c.args.line.now c.args.block.now c.check.result c.if-block-line.false c.check.ensures.body))

pub returns-clause-refused : goal.returns-clause-refused
returns-clause-refused c =
    let t = c.self.inside.table in
    let views = c.self.inside.desks.items in
    let old = c.index_mut-history.result.now in
    let within : c.args.line.now.desk < length (map (λ h. h.state) views) = search rules in
    at_bench (λ t r. IfErr c.check.result (IsRefusedBy (FailsBlock t r c.args.line.now c.args.block.now) IsEarlierBlockFault faults.Memory)) t (pivots_together c.self.inside.search.engine.pivots c.self.inside.search.repair_pivots) views c.args.line.now.desk old c.args.self.now within c.index_mut-history.ensures.value c.self.view_is
    (checked_refused t old.state c.args.line.now c.args.block.now c.check.result c.if-block-line.false c.check.ensures.refused)

pub returns-clause-not_proved : goal.returns-clause-not_proved
returns-clause-not_proved c = none_proved c.args.self.now.table (revisions_at c.args.self.now c.args.line.now.desk) c.args.line.now c.args.block.now c.check.result (returns-clause-refused c)

pub returns-clause-moved : goal.returns-clause-moved
returns-clause-moved c =
    let views = c.self.inside.desks.items in
    let within : c.args.line.now.desk < length (map (λ h. h.state) views) = search rules in
    checked_moves c.self.inside.table (pivots_together c.self.inside.search.engine.pivots c.self.inside.search.repair_pivots) views c.args.line.now c.args.block.now c.index_mut-history.result.now c.check.new.history c.args.self.now c.check.result within c.index_mut-history.ensures.value c.self.view_is c.check.ensures.moved

pub returns-clause-kept : goal.returns-clause-kept
returns-clause-kept c = checked_keeps c.self.inside.table (pivots_together c.self.inside.search.engine.pivots c.self.inside.search.repair_pivots) c.self.inside.desks.items c.args.line.now c.args.block.now c.index_mut-history.result.now c.check.new.history c.args.self.now c.check.result c.index_mut-history.ensures.value c.self.view_is c.check.ensures.kept

pub returns-clause-room : goal.returns-clause-room
returns-clause-room c =
    let views = c.self.inside.desks.items in
    let within : c.args.line.now.desk < length (map (λ h. h.state) views) = search rules in
    let p = pivots_together c.self.inside.search.engine.pivots c.self.inside.search.repair_pivots in
    room_elsewhere c.self.inside.table p p views c.args.line.now.desk c.index_mut-history.result.now c.check.new.history c.args.self.now within c.index_mut-history.ensures.value c.self.view_is
