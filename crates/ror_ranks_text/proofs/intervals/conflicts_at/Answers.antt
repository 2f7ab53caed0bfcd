use Rattle.std.proofs.Common.{◌≡◌, ◌-◌, ◌+◌, suc, arith, ap, ◌∙◌}
use Rattle.std.proofs.lemmas.Result.{err_from_is_err_and}
use Rattle.ror_text.specs.Cursor.{cursor_at}
use Rattle.ror_proof.proofs.Loops.{with_front, lines_go_on, lines_exit, lines_end}
use Rattle.ror_ranks_text.specs.Reading.{so_many, conflict_at}
use Rattle.ror_ranks_text.proofs.ManyLoops.{many_step, no_many}
use Rattle.ror_ranks_text.proofs.intervals.conflicts_at.Goals as goal

pub returns-in_err-conflict-clause-exact : goal.returns-in_err-conflict-clause-exact
returns-in_err-conflict-clause-exact c =
    let bytes = c.args.bytes.now in
    let read = conflict_at c.args.table.now in
    let at = cursor_at bytes c.conflicts.next in
    let most = c.args.count - c.conflicts.counter in
    let is : most ≡ suc (most - 1) = omega (arith, c.conflicts-test.true) in
    let p = err_from_is_err_and c.from_residual.result c.from_residual.ensures.1 in
    rw (p.1, p.2) (lines_exit (so_many read) (read at) most (most - 1) c.conflicts.conflicts.items at c.in_err-conflict.field-0.0 (so_many read c.args.count (cursor_at bytes c.args.from)) is (many_step read (most - 1) at) c.in_err-conflict.ensures.exact c.conflicts.invariant.reads)

pub conflicts-preserved : goal.conflicts-preserved
conflicts-preserved c =
    let bytes = c.args.bytes.now in
    let read = conflict_at c.args.table.now in
    let at = cursor_at bytes c.conflicts.next in
    let most = c.args.count - c.conflicts.counter in
    let left = c.args.count - (c.conflicts.counter + 1) in
    let is : most ≡ suc left = omega (arith, c.conflicts-test.true) in
    let whole = so_many read c.args.count (cursor_at bytes c.args.from) in
    let next = cursor_at bytes c.in_ok-conflict.after in
    record {
      onward = omega (arith, c.in_ok-conflict.ensures.onward, c.conflicts.invariant.onward);
      within = c.in_ok-conflict.ensures.within;
      reads = ap (λ xs. with_front xs (so_many read left next)) c.in_ok-push.ensures.items ∙ lines_go_on (so_many read) (read at) most left c.conflicts.conflicts.items at next c.in_ok-conflict.conflict whole is (many_step read left at) c.in_ok-conflict.ensures.exact c.conflicts.invariant.reads;
    }

pub returns-clause-exact : goal.returns-clause-exact
returns-clause-exact c =
    let bytes = c.args.bytes.now in
    let read = conflict_at c.args.table.now in
    let at = cursor_at bytes c.conflicts.next in
    let left = c.args.count - c.conflicts.counter in
    let none : left ≡ 0 = omega (arith, c.conflicts-test.false) in
    lines_end (so_many read left at) c.conflicts.conflicts.items at (so_many read c.args.count (cursor_at bytes c.args.from)) (ap (λ n. so_many read n at) none ∙ no_many read at) c.conflicts.invariant.reads
