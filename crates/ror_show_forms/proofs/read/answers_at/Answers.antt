use Rattle.std.proofs.Common.{◌≡◌, ◌-◌, ◌+◌, suc, arith, ap, ◌∙◌}
use Rattle.std.proofs.lemmas.Result.{err_from_is_err_and}
use Rattle.ror_text.specs.Cursor.{cursor_at}
use Rattle.ror_proof.specs.Reading.{answer_at}
use Rattle.ror_proof.proofs.Loops.{with_front, lines_go_on, lines_exit, lines_end}
use Rattle.ror_show_forms.specs.Reading.{answers_at}
use Rattle.ror_show_forms.proofs.AnswerLoops.{answer_step, no_answers}
use Rattle.ror_show_forms.proofs.read.answers_at.Goals as goal

pub returns-in_err-answer-clause-exact : goal.returns-in_err-answer-clause-exact
returns-in_err-answer-clause-exact c =
    let bytes = c.args.bytes.now in
    let t = c.args.table.now in
    let most = c.args.count - c.answers.counter in
    let is : most ≡ suc (most - 1) = omega (arith, c.answers-test.true) in
    let p = err_from_is_err_and c.from_residual.result c.from_residual.ensures.1 in
    rw (p.1, p.2) (lines_exit (answers_at t) (answer_at t (cursor_at bytes c.answers.next)) most (most - 1) c.answers.answers.items (cursor_at bytes c.answers.next) c.in_err-answer.field-0.0 (answers_at t c.args.count (cursor_at bytes c.args.from)) is (answer_step t (most - 1) (cursor_at bytes c.answers.next)) c.in_err-answer.ensures.exact c.answers.invariant.reads)

pub answers-preserved : goal.answers-preserved
answers-preserved c =
    let bytes = c.args.bytes.now in
    let t = c.args.table.now in
    let most = c.args.count - c.answers.counter in
    let left = c.args.count - (c.answers.counter + 1) in
    let is : most ≡ suc left = omega (arith, c.answers-test.true) in
    let whole = answers_at t c.args.count (cursor_at bytes c.args.from) in
    let next = cursor_at bytes c.in_ok-answer.after in
    record {
      onward = omega (arith, c.in_ok-answer.ensures.onward, c.answers.invariant.onward);
      within = c.in_ok-answer.ensures.within;
      reads = ap (λ xs. with_front xs (answers_at t left next)) c.in_ok-push.ensures.items ∙ lines_go_on (answers_at t) (answer_at t (cursor_at bytes c.answers.next)) most left c.answers.answers.items (cursor_at bytes c.answers.next) next c.in_ok-answer.answer whole is (answer_step t left (cursor_at bytes c.answers.next)) c.in_ok-answer.ensures.exact c.answers.invariant.reads;
    }

pub returns-clause-exact : goal.returns-clause-exact
returns-clause-exact c =
    let bytes = c.args.bytes.now in
    let t = c.args.table.now in
    let none : c.args.count - c.answers.counter ≡ 0 = omega (arith, c.answers-test.false) in
    let at = cursor_at bytes c.answers.next in
    lines_end (answers_at t (c.args.count - c.answers.counter) at) c.answers.answers.items at (answers_at t c.args.count (cursor_at bytes c.args.from)) (ap (λ n. answers_at t n at) none ∙ no_answers t at) c.answers.invariant.reads
