use Rattle.std.proofs.Common.{arith, ◌≡◌, ◌||◌, ◌+◌, ◌∙◌, ◌++◌, ◌∷◌, [], length, take, drop, Err, sym, ap, subst}
use Rattle.std.proofs.lemmas.List.{take_all, take_more}
use Rattle.std.proofs.lemmas.Result.{err_from_is_err_and}
use Rattle.std.specs.List.{AllByRecursion}
use Rattle.ror_session.specs.declared.session.Line.{Line}
use Rattle.ror_table.specs.Table.{DecisionTable}
use Rattle.ror_report.specs.Text.{block_text}
use Rattle.ror_bench.specs.Blocks.{HasText}
use Rattle.ror_bench.specs.Bench.{LeavesNumbers}
use Rattle.ror_bench.proofs.ReportProofs.{desk_at, after_desks, number_left, one_fewer}
use Rattle.ror_bench.proofs.MakingLemmas.{numbers_then}
use Rattle.ror_frame.specs.States.{sink_state}
use Rattle.ror_pivot.specs.Answers.{most_of}
use Rattle.ror_bench.specs.Blocks.{has_wide}
use Rattle.ror_bench.proofs.WideLemmas.{wide_blocks}
use Rattle.ror_work.specs.Replaying.{WritesText}
use Rattle.ror_work.proofs.Making.{none_written, one_written, first_blocks, block_stopped}
use Rattle.ror_work.proofs.replay.write_blocks.Goals.{then-wide, else-wide}
use Rattle.ror_work.proofs.replay.write_blocks.Goals as goal

pub loop-line-init : goal.loop-line-init
loop-line-init g c = record {
  numbers = c.requires.numbers;
  were = none_written (most_of c.args.bits) c.args.bench.now (sink_state (g.O.Sink.written c.args.out.now) (g.O.Sink.faults c.args.out.now));
}

pub step-requires-clause-desk : goal.step-requires-clause-desk
step-requires-clause-desk g c =
    let start = c.args.bench.now in
    let line = c.line-item.result in
    let desk = desk_at (length start.state) c.args.lines.now c.loop-line.line-index line c.requires.desks c.loop-line-test.true c.line-item.is in
    after_desks start _ c.loop-line.bench c.loop-line.invariant.were.made.after line desk

pub step-requires-clause-number : goal.step-requires-clause-number
step-requires-clause-number g c =
    let start = c.args.bench.now in
    let lines = c.args.lines.now in
    let i = c.loop-line.line-index in
    let line = c.line-item.result in
    let desk = desk_at (length start.state) lines i line c.requires.desks c.loop-line-test.true c.line-item.is in
    let here = after_desks start _ c.loop-line.bench c.loop-line.invariant.were.made.after line desk in
    let fewer = one_fewer lines i c.loop-line-test.true in
    let left = number_left c.loop-line.bench line (length (drop (i + 1) lines)) here (subst (λ n. AllByRecursion (LeavesNumbers n) c.loop-line.bench.state) fewer c.loop-line.invariant.numbers) in
    omega (arith, left)

pub write_block-written-requires : goal.write_block-written-requires
write_block-written-requires g c =
    subst (λ (t : DecisionTable). HasText t c.in_ok-block.block) (sym (c.table.ensures.value ∙ c.in_ok-block.ensures.moved.0)) c.in_ok-block.ensures.text

pub returns-in_err-block : goal.returns-in_err-block
returns-in_err-block g c =
    let were = c.loop-line.invariant.were in
    let p = err_from_is_err_and c.from_residual.result c.from_residual.ensures.1 in
    rw (p.1, p.2) (were.faults, _, first_blocks (most_of c.args.bits) c.args.bench.now c.args.lines.now c.loop-line.line-index _ _ _ _ were, were.grew)

pub returns-in_err-written : goal.returns-in_err-written
returns-in_err-written g c =
    let start = c.args.bench.now in
    let lines = c.args.lines.now in
    let i = c.loop-line.line-index in
    let line = c.line-item.result in
    let block = c.in_ok-block.block in
    let desk = desk_at (length start.state) lines i line c.requires.desks c.loop-line-test.true c.line-item.is in
    let p = err_from_is_err_and c.from_residual-in_err-written.result c.from_residual-in_err-written.ensures.1 in
    let stopped = subst (λ (t : DecisionTable). WritesText {A = Unit {0}} (block_text t block) (g.O.Sink.faults c.loop-line.out) (g.O.Sink.faults c.write_block-written.new.out) (g.O.Sink.written c.loop-line.out) (g.O.Sink.written c.write_block-written.new.out) (Err c.in_err-written.field-0.0)) (c.table.ensures.value ∙ c.in_ok-block.ensures.moved.0) c.in_err-written.ensures in
    rw (p.1, p.2) (block_stopped (most_of c.args.bits) start lines i c.loop-line.bench c.step.new.self _ _ (sink_state (g.O.Sink.written c.write_block-written.new.out) (g.O.Sink.faults c.write_block-written.new.out)) _ line block c.in_err-written.field-0.0 c.loop-line-test.true c.line-item.is c.loop-line.invariant.were desk c.in_ok-block.ensures.block c.in_ok-block.ensures.text.printable c.in_ok-block.ensures.moved stopped)

pub loop-line-preserved : goal.loop-line-preserved
loop-line-preserved g c =
    let start = c.args.bench.now in
    let lines = c.args.lines.now in
    let i = c.loop-line.line-index in
    let line = c.line-item.result in
    let block = c.in_ok-block.block in
    let were = c.loop-line.invariant.were in
    let desk = desk_at (length start.state) lines i line c.requires.desks c.loop-line-test.true c.line-item.is in
    let here = after_desks start _ c.loop-line.bench were.made.after line desk in
    let fewer = one_fewer lines i c.loop-line-test.true in
    let done = c.in_ok-written.ensures in
    let text = ap (λ t. block_text t block) (c.table.ensures.value ∙ c.in_ok-block.ensures.moved.0) in
    let wide : c.if-wide.wide ≡ (c.loop-line.wide || has_wide block) = elim c.if-wide.branch [
      | then-wide w ↦ w.wide-is ∙ w.if-wide.true ∙ sym (ap (λ b. b || has_wide block) w.if-wide.true)
      | else-wide w ↦ w.wide-is ∙ c.has_wide-here.ensures ∙ sym (ap (λ b. b || has_wide block) w.if-wide.false)
    ] in
    let one = one_written (most_of c.args.bits) start (take i lines) c.loop-line.bench c.step.new.self _ _ (sink_state (g.O.Sink.written c.write_block-written.new.out) (g.O.Sink.faults c.write_block-written.new.out)) c.loop-line.wide line block were desk c.in_ok-block.ensures.block c.in_ok-block.ensures.text.printable c.in_ok-block.ensures.moved done.0 (rw (sym text) done.1) in
    let more : take (i + 1) lines ≡ take i lines ++ line ∷ [] = take_more lines i line c.loop-line-test.true ∙ ap (λ (x : Line). take i lines ++ x ∷ []) (sym c.line-item.is) in
    record {
      numbers = numbers_then (most_of c.args.bits) c.loop-line.bench c.step.new.self line block (length (drop (i + 1) lines)) here (subst (λ n. AllByRecursion (LeavesNumbers n) c.loop-line.bench.state) fewer c.loop-line.invariant.numbers) c.in_ok-block.ensures.block c.in_ok-block.ensures.moved;
      were = rw (wide, more) one;
    }

pub returns : goal.returns
returns g c =
    let were = c.loop-line.invariant.were in
    let all = take_all c.loop-line.line-index c.args.lines.now (omega arith) in
    let made = rw all at were.made.blocks_are in
    (were.faults, were.blocks, made, were.wide_is ∙ wide_blocks were.blocks, were.grew)
