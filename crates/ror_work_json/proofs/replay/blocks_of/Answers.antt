use Rattle.std.proofs.Common.{rules, arith, ◌≡◌, ◌+◌, ◌∙◌, ◌++◌, ◌∷◌, [], length, take, drop, refl, sym, ap, subst}
use Rattle.std.proofs.lemmas.List.{take_all, take_more}
use Rattle.std.specs.List.{AllByRecursion}
use Rattle.ror_session.specs.declared.session.Line.{Line}
use Rattle.ror_table.specs.Table.{DecisionTable}
use Rattle.ror_report.specs.declared.block.Block.{Block}
use Rattle.ror_text.proofs.Everywhere.{all-append}
use Rattle.ror_bench.specs.Bench.{LeavesNumbers}
use Rattle.ror_bench.specs.Blocks.{HasText}
use Rattle.ror_bench.proofs.ReportProofs.{desk_at, after_desks, number_left, one_fewer}
use Rattle.ror_bench.proofs.MakingLemmas.{IsMade, made_nothing, made_more, numbers_then}
use Rattle.ror_pivot.specs.Answers.{most_of}
use Rattle.ror_work_json.proofs.replay.blocks_of.Goals as goal

pub loop-line-init : goal.loop-line-init
loop-line-init c =
    let start = c.args.bench.now in
    let none : c.in_ok-blocks.blocks.items ≡ [] = search rules in
    record { numbers = c.requires.numbers; made = rw none (made_nothing (most_of c.args.bits) start); text = rw none tt }

pub step-requires-clause-desk : goal.step-requires-clause-desk
step-requires-clause-desk c =
    let start = c.args.bench.now in
    let line = c.line-item.result in
    let desk = desk_at (length start.state) c.args.lines.now c.loop-line.line-index line c.requires.desks c.loop-line-test.true c.line-item.is in
    after_desks start _ c.loop-line.bench c.loop-line.invariant.made.after line desk

pub step-requires-clause-number : goal.step-requires-clause-number
step-requires-clause-number c =
    let start = c.args.bench.now in
    let lines = c.args.lines.now in
    let i = c.loop-line.line-index in
    let line = c.line-item.result in
    let desk = desk_at (length start.state) lines i line c.requires.desks c.loop-line-test.true c.line-item.is in
    let here = after_desks start _ c.loop-line.bench c.loop-line.invariant.made.after line desk in
    let fewer = one_fewer lines i c.loop-line-test.true in
    let left = number_left c.loop-line.bench line (length (drop (i + 1) lines)) here (subst (λ n. AllByRecursion (LeavesNumbers n) c.loop-line.bench.state) fewer c.loop-line.invariant.numbers) in
    omega (arith, left)

pub loop-line-preserved : goal.loop-line-preserved
loop-line-preserved c =
    let start = c.args.bench.now in
    let lines = c.args.lines.now in
    let i = c.loop-line.line-index in
    let line = c.line-item.result in
    let block = c.in_ok-block.block in
    let made = c.loop-line.invariant.made in
    let desk = desk_at (length start.state) lines i line c.requires.desks c.loop-line-test.true c.line-item.is in
    let here = after_desks start _ c.loop-line.bench made.after line desk in
    let fewer = one_fewer lines i c.loop-line-test.true in
    let one = made_more (most_of c.args.bits) start (take i lines) c.loop-line.bench c.step.new.self line c.loop-line.blocks.items block made desk c.in_ok-block.ensures.block c.in_ok-block.ensures.text.printable c.in_ok-block.ensures.moved in
    let more : take (i + 1) lines ≡ take i lines ++ line ∷ [] = take_more lines i line c.loop-line-test.true ∙ ap (λ (x : Line). take i lines ++ x ∷ []) (sym c.line-item.is) in
    let pushed : c.push.new.self.items ≡ c.loop-line.blocks.items ++ block ∷ [] = search rules in
    record {
      numbers = numbers_then (most_of c.args.bits) c.loop-line.bench c.step.new.self line block (length (drop (i + 1) lines)) here (subst (λ n. AllByRecursion (LeavesNumbers n) c.loop-line.bench.state) fewer c.loop-line.invariant.numbers) c.in_ok-block.ensures.block c.in_ok-block.ensures.moved;
      made = rw (more, pushed) one;
      text = rw pushed (all-append (HasText start.table) c.loop-line.blocks.items (block ∷ []) c.loop-line.invariant.text (subst (λ (t : DecisionTable). HasText t block) made.after.table c.in_ok-block.ensures.text, tt));
    }

pub returns-clause-made : goal.returns-clause-made
returns-clause-made c = rw (sym (take_all c.loop-line.line-index c.args.lines.now (omega arith))) c.loop-line.invariant.made.blocks_are
