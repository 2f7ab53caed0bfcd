use Rattle.std.proofs.Common.{rules, arith, ◌≡◌, ◌+◌, ◌-◌, drop, length, [], refl, sym, ap, subst, ◌∙◌}
use Rattle.std.specs.List.{AllByRecursion}
use Rattle.std.proofs.lemmas.Result.{err_from_is_err_and}
use Rattle.ror_table.specs.Table.{IsTable}
use Rattle.ror_report.specs.Text.{end_text}
use Rattle.ror_bench.specs.Bench.{LeavesNumbers, revisions_at}
use Rattle.ror_bench.specs.Steps.{with_passed}
use Rattle.ror_bench.specs.Reports.{IsRejectedFrom, RejectsNext, RejectsEnd}
use Rattle.ror_bench.proofs.ReportProofs.{header_within, way_begins, way_goes_on, way_breaks, way_at, way_over, way_ends, way_ends_badly, desk_at, after_desks, rejects_by, numbers_after, number_left, one_fewer, kept_here, IsWay}
use Rattle.ror_bench.proofs.report.check_blocks.Goals as goal

pub loop-line-init : goal.loop-line-init
loop-line-init c = record {
  within = header_within c.args.bytes.now c.args.start c.requires.header;
  few = omega arith;
  block_is = refl;
  fits = omega arith;
  wide_fits = omega arith;
  numbers = c.requires.numbers;
  way = subst (λ ks. IsWay c.args.bench.now c.args.lines.now c.args.bytes.now c.args.start c.args.bench.now c.args.lines.now c.args.start c.args.keep.now ks (record { answers = 0; wide = 0 }) 0) (sym c.new-kept.ensures.items)
      (way_begins c.args.bench.now c.args.lines.now c.args.bytes.now c.args.start c.args.keep.now c.requires.header);
}

pub check_next-requires-clause-number : goal.check_next-requires-clause-number
check_next-requires-clause-number c =
    let i = c.loop-line.line-index in
    let lines = c.args.lines.now in
    let desk = desk_at (length c.args.bench.now.state) lines i c.line-item.result c.requires.desks c.loop-line-test.true c.line-item.is in
    let here = after_desks c.args.bench.now c.loop-line.invariant.way.before c.loop-line.bench c.loop-line.invariant.way.after c.line-item.result desk in
    let fewer = one_fewer lines i c.loop-line-test.true in
    number_left c.loop-line.bench c.line-item.result (length (drop (i + 1) lines)) here (subst (λ n. AllByRecursion (LeavesNumbers n) c.loop-line.bench.state) fewer c.loop-line.invariant.numbers)

pub loop-line-preserved : goal.loop-line-preserved
loop-line-preserved c =
    let start = c.args.bench.now in
    let lines = c.args.lines.now in
    let bytes = c.args.bytes.now in
    let keep = c.args.keep.now in
    let i = c.loop-line.line-index in
    let line = c.line-item.result in
    let block = c.in_ok-found.found in
    let kept = c.loop-line.kept.items in
    let table : IsTable start.table = subst IsTable c.table.ensures.value c.alternatives.ensures.table in
    let desk = desk_at (length start.state) lines i line c.requires.desks c.loop-line-test.true c.line-item.is in
    let way = way_at start lines bytes c.loop-line.bench i line c.args.start c.loop-line.next keep kept c.loop-line.accepted i c.loop-line-test.true c.line-item.is c.loop-line.invariant.way in
    let next = c.in_ok-found.ensures.next in
    let here = after_desks start c.loop-line.invariant.way.before c.loop-line.bench c.loop-line.invariant.way.after line desk in
    let fewer = one_fewer lines i c.loop-line-test.true in
    let place : c.loop-line.block - 1 ≡ i = omega (arith, c.loop-line.invariant.block_is) in
    let same = kept_here keep (revisions_at c.loop-line.bench line.desk) (c.loop-line.block - 1) i c.keep_at-here.result c.in_ok-standing.standing block place c.keep_at-here.ensures c.in_ok-standing.ensures in
    record {
      within = c.in_ok-found.ensures.within;
      few = omega (arith, c.in_ok-found.ensures.onward);
      block_is = omega arith;
      fits = first_of (search rules, omega arith);
      wide_fits = first_of (search rules, omega arith);
      numbers = numbers_after c.loop-line.bench c.check_next.new.bench line block (length (drop (i + 1) lines)) here (subst (λ n. AllByRecursion (LeavesNumbers n) c.loop-line.bench.state) fewer c.loop-line.invariant.numbers) next.proved next.moved_on;
      way = subst (λ ks. IsWay start lines bytes c.args.start c.check_next.new.bench (drop (i + 1) lines) c.in_ok-found.after keep ks (with_passed c.loop-line.accepted c.in_ok-found.passed) (i + 1)) (sym c.in_ok-push_kept.ensures)
          (way_goes_on start lines bytes c.args.start c.loop-line.bench c.check_next.new.bench line (drop (i + 1) lines) c.loop-line.next keep kept _ c.loop-line.accepted i block c.in_ok-found.passed c.in_ok-found.after table desk way next same);
    }

pub returns-in_err-found-clause-rejected : goal.returns-in_err-found-clause-rejected
returns-in_err-found-clause-rejected c =
    let start = c.args.bench.now in
    let lines = c.args.lines.now in
    let bytes = c.args.bytes.now in
    let i = c.loop-line.line-index in
    let line = c.line-item.result in
    let desk = desk_at (length start.state) lines i line c.requires.desks c.loop-line-test.true c.line-item.is in
    let way = way_at start lines bytes c.loop-line.bench i line c.args.start c.loop-line.next c.args.keep.now c.loop-line.kept.items c.loop-line.accepted i c.loop-line-test.true c.line-item.is c.loop-line.invariant.way in
    let p = err_from_is_err_and c.from_residual-in_err-found.result c.from_residual-in_err-found.ensures.1 in
    rw (p.1, p.2) (rejects_by (λ rejection. (rejection.block ≡ c.loop-line.block) × RejectsNext c.loop-line.bench.table (revisions_at c.loop-line.bench line.desk) line bytes c.loop-line.next rejection.reason) (λ rejection. IsRejectedFrom start bytes rejection [] lines c.args.start) c.in_err-found.field-0.0
    (λ rejection h. way_breaks start lines bytes c.args.start c.loop-line.bench line (drop (i + 1) lines) c.loop-line.next c.loop-line.accepted i rejection desk way (h.0 ∙ c.loop-line.invariant.block_is) h.1) c.in_err-found.ensures.rejected)

pub returns-in_err-check_end-clause-rejected : goal.returns-in_err-check_end-clause-rejected
returns-in_err-check_end-clause-rejected c =
    let start = c.args.bench.now in
    let lines = c.args.lines.now in
    let bytes = c.args.bytes.now in
    let i = c.loop-line.line-index in
    let way = way_over start lines bytes c.loop-line.bench i c.args.start c.loop-line.next c.args.keep.now c.loop-line.kept.items c.loop-line.accepted i (omega arith) c.loop-line.invariant.way in
    let count : c.loop-line.block - 1 ≡ i = omega (arith, c.loop-line.invariant.block_is) in
    let p = err_from_is_err_and c.from_residual-in_err-check_end.result c.from_residual-in_err-check_end.ensures.1 in
    rw (p.1, p.2) (rejects_by (λ rejection. (rejection.block ≡ c.loop-line.block) × RejectsEnd c.table-2.result.now bytes c.loop-line.next (c.loop-line.block - 1) rejection.reason) (λ rejection. IsRejectedFrom start bytes rejection [] lines c.args.start) c.in_err-check_end.field-0.0
    (λ rejection h. way_ends_badly start lines bytes c.args.start c.loop-line.bench c.loop-line.next c.loop-line.accepted i rejection way (h.0 ∙ c.loop-line.invariant.block_is) (subst (λ n. RejectsEnd c.loop-line.bench.table bytes c.loop-line.next n rejection.reason) count (subst (λ t. RejectsEnd t bytes c.loop-line.next (c.loop-line.block - 1) rejection.reason) c.table-2.ensures.value h.1))) c.in_err-check_end.ensures.rejected)

pub returns-clause-accepted : goal.returns-clause-accepted
returns-clause-accepted c =
    let i = c.loop-line.line-index in
    let way = way_over c.args.bench.now c.args.lines.now c.args.bytes.now c.loop-line.bench i c.args.start c.loop-line.next c.args.keep.now c.loop-line.kept.items c.loop-line.accepted i (omega arith) c.loop-line.invariant.way in
    let count : c.loop-line.block - 1 ≡ length c.args.lines.now = omega (arith, c.loop-line.invariant.block_is) in
    way_ends c.args.bench.now c.args.lines.now c.args.bytes.now c.args.start c.loop-line.bench c.loop-line.next c.args.keep.now c.loop-line.kept.items c.loop-line.accepted i way (c.in_ok-check_end.ensures.last ∙ ap end_text count)
