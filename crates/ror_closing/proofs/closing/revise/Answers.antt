use Rattle.std.proofs.Common.{arith, ◌+◌, ◌∙◌, length, take, drop, sym, subst}
use Rattle.std.specs.List.{AllByRecursion}
use Rattle.ror_bench.specs.Bench.{LeavesNumbers}
use Rattle.ror_bench.proofs.ReportProofs.{desk_at, number_left, numbers_after, one_fewer, weaker}
use Rattle.ror_closing.specs.Closing.{HasRevised}
use Rattle.ror_closing.proofs.ClosingLemmas.{took, desk_here, revised_nothing, revised_past, revised_more}
use Rattle.ror_closing.proofs.closing.revise.Goals.{then-may_revise+in_ok-do_line, else-may_revise}
use Rattle.ror_closing.proofs.closing.revise.Goals as goal

pub loop-line-init : goal.loop-line-init
loop-line-init c = record { numbers = c.requires.numbers; has = revised_nothing c.args.bench.now }

pub loop-line-preserved : goal.loop-line-preserved
loop-line-preserved c =
    let start = c.args.bench.now in
    let lines = c.args.lines.now in
    let i = c.loop-line.line-index in
    let line = c.line-item.result in
    let bench = c.loop-line.bench in
    let has = c.loop-line.invariant.has in
    let numbers = subst (λ n. AllByRecursion (LeavesNumbers n) bench.state) (one_fewer lines i c.loop-line-test.true) c.loop-line.invariant.numbers in
    let more = took lines i line c.loop-line-test.true c.line-item.is in
    let desk = desk_at (length start.state) lines i line c.requires.named c.loop-line-test.true c.line-item.is in
    let here = desk_here start (take i lines) bench line has desk in
    elim c.if-may_revise.branch [
      | then-may_revise+in_ok-do_line w ↦
          let moved = w.do_line.new.bench in
          let done = w.in_ok-do_line.ensures.done in
          let next : HasRevised start (take (i + 1) lines) moved = rw more (revised_more start (take i lines) bench moved line done.block (sym c.may_revise.ensures ∙ w.if-may_revise.true) has desk done.is_block done.moved_on) in
          rw w.bench-is (record { numbers = numbers_after bench moved line done.block (length (drop (i + 1) lines)) here numbers done.is_block done.moved_on; has = next })
      | else-may_revise w ↦
          let next : HasRevised start (take (i + 1) lines) bench = rw more (revised_past start (take i lines) bench line (sym c.may_revise.ensures ∙ w.if-may_revise.false) has) in
          rw w.bench-is (record { numbers = weaker (length (drop (i + 1) lines)) bench.state numbers; has = next })
    ]

pub do_line-requires-clause-desk : goal.do_line-requires-clause-desk
do_line-requires-clause-desk c =
    let lines = c.args.lines.now in
    let desk = desk_at (length c.args.bench.now.state) lines c.loop-line.line-index c.line-item.result c.requires.named c.loop-line-test.true c.line-item.is in
    desk_here c.args.bench.now (take c.loop-line.line-index lines) c.loop-line.bench c.line-item.result c.loop-line.invariant.has desk

pub do_line-requires-clause-number : goal.do_line-requires-clause-number
do_line-requires-clause-number c =
    let lines = c.args.lines.now in
    let i = c.loop-line.line-index in
    let line = c.line-item.result in
    let desk = desk_at (length c.args.bench.now.state) lines i line c.requires.named c.loop-line-test.true c.line-item.is in
    let here = desk_here c.args.bench.now (take i lines) c.loop-line.bench line c.loop-line.invariant.has desk in
    let left = number_left c.loop-line.bench line (length (drop (i + 1) lines)) here (subst (λ n. AllByRecursion (LeavesNumbers n) c.loop-line.bench.state) (one_fewer lines i c.loop-line-test.true) c.loop-line.invariant.numbers) in
    omega (arith, left)
