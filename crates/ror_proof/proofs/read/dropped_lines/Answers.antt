use Rattle.std.proofs.Common.{◌≡◌, ◌-◌, ◌+◌, suc, arith, ap, ◌∙◌}
use Rattle.std.proofs.lemmas.Result.{err_from_is_err_and}
use Rattle.ror_text.specs.Cursor.{cursor_at}
use Rattle.ror_proof.specs.Reading.{dropped_line, dropped_lines}
use Rattle.ror_proof.proofs.Loops.{with_front, lines_go_on, lines_exit, lines_end, dropped_step, no_dropped}
use Rattle.ror_proof.proofs.read.dropped_lines.Goals as goal

pub returns-in_err-statement-clause-exact : goal.returns-in_err-statement-clause-exact
returns-in_err-statement-clause-exact c =
    let bytes = c.args.bytes.now in
    let most = c.args.count - c.dropped.counter in
    let is : most ≡ suc (most - 1) = omega (arith, c.dropped-test.true) in
    let p = err_from_is_err_and c.from_residual.result c.from_residual.ensures.1 in
    rw (p.1, p.2) (lines_exit dropped_lines (dropped_line (cursor_at bytes c.dropped.next)) most (most - 1) c.dropped.dropped.items (cursor_at bytes c.dropped.next) c.in_err-statement.field-0.0 (dropped_lines c.args.count (cursor_at bytes c.args.from)) is (dropped_step (most - 1) (cursor_at bytes c.dropped.next)) c.in_err-statement.ensures.exact c.dropped.invariant.reads)

pub dropped-preserved : goal.dropped-preserved
dropped-preserved c =
    let bytes = c.args.bytes.now in
    let most = c.args.count - c.dropped.counter in
    let left = c.args.count - (c.dropped.counter + 1) in
    let is : most ≡ suc left = omega (arith, c.dropped-test.true) in
    let whole = dropped_lines c.args.count (cursor_at bytes c.args.from) in
    let next = cursor_at bytes c.in_ok-statement.after in
    record {
      onward = omega (arith, c.in_ok-statement.ensures.onward, c.dropped.invariant.onward);
      within = c.in_ok-statement.ensures.within;
      reads = ap (λ xs. with_front xs (dropped_lines left next)) c.in_ok-push.ensures.items ∙ lines_go_on dropped_lines (dropped_line (cursor_at bytes c.dropped.next)) most left c.dropped.dropped.items (cursor_at bytes c.dropped.next) next c.in_ok-statement.statement whole is (dropped_step left (cursor_at bytes c.dropped.next)) c.in_ok-statement.ensures.exact c.dropped.invariant.reads;
    }

pub returns-clause-exact : goal.returns-clause-exact
returns-clause-exact c =
    let bytes = c.args.bytes.now in
    let none : c.args.count - c.dropped.counter ≡ 0 = omega (arith, c.dropped-test.false) in
    let at = cursor_at bytes c.dropped.next in
    lines_end (dropped_lines (c.args.count - c.dropped.counter) at) c.dropped.dropped.items at (dropped_lines c.args.count (cursor_at bytes c.args.from)) (ap (λ n. dropped_lines n at) none ∙ no_dropped at) c.dropped.invariant.reads
