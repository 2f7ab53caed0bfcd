use Rattle.std.proofs.Common.{◌≡◌, ◌-◌, ◌+◌, suc, arith, ap, ◌∙◌}
use Rattle.std.proofs.lemmas.Result.{err_from_is_err_and}
use Rattle.ror_text.specs.Cursor.{cursor_at}
use Rattle.ror_proof.proofs.Loops.{with_front, lines_go_on, lines_exit, lines_end}
use Rattle.ror_ranks_text.specs.Reading.{so_many, extreme_at}
use Rattle.ror_ranks_text.proofs.ManyLoops.{many_step, no_many}
use Rattle.ror_ranks_text.proofs.read.extremes_at.Goals as goal

pub returns-in_err-extreme-clause-exact : goal.returns-in_err-extreme-clause-exact
returns-in_err-extreme-clause-exact c =
    let bytes = c.args.bytes.now in
    let read = extreme_at c.args.table.now in
    let at = cursor_at bytes c.extremes.next in
    let most = c.args.count - c.extremes.counter in
    let is : most ≡ suc (most - 1) = omega (arith, c.extremes-test.true) in
    let p = err_from_is_err_and c.from_residual.result c.from_residual.ensures.1 in
    rw (p.1, p.2) (lines_exit (so_many read) (read at) most (most - 1) c.extremes.extremes.items at c.in_err-extreme.field-0.0 (so_many read c.args.count (cursor_at bytes c.args.from)) is (many_step read (most - 1) at) c.in_err-extreme.ensures.exact c.extremes.invariant.reads)

pub extremes-preserved : goal.extremes-preserved
extremes-preserved c =
    let bytes = c.args.bytes.now in
    let read = extreme_at c.args.table.now in
    let at = cursor_at bytes c.extremes.next in
    let most = c.args.count - c.extremes.counter in
    let left = c.args.count - (c.extremes.counter + 1) in
    let is : most ≡ suc left = omega (arith, c.extremes-test.true) in
    let whole = so_many read c.args.count (cursor_at bytes c.args.from) in
    let next = cursor_at bytes c.in_ok-extreme.after in
    record {
      onward = omega (arith, c.in_ok-extreme.ensures.onward, c.extremes.invariant.onward);
      within = c.in_ok-extreme.ensures.within;
      reads = ap (λ xs. with_front xs (so_many read left next)) c.in_ok-push.ensures.items ∙ lines_go_on (so_many read) (read at) most left c.extremes.extremes.items at next c.in_ok-extreme.extreme whole is (many_step read left at) c.in_ok-extreme.ensures.exact c.extremes.invariant.reads;
    }

pub returns-clause-exact : goal.returns-clause-exact
returns-clause-exact c =
    let bytes = c.args.bytes.now in
    let read = extreme_at c.args.table.now in
    let at = cursor_at bytes c.extremes.next in
    let left = c.args.count - c.extremes.counter in
    let none : left ≡ 0 = omega (arith, c.extremes-test.false) in
    lines_end (so_many read left at) c.extremes.extremes.items at (so_many read c.args.count (cursor_at bytes c.args.from)) (ap (λ n. so_many read n at) none ∙ no_many read at) c.extremes.invariant.reads
