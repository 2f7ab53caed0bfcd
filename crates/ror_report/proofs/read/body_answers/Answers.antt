use Rattle.std.proofs.Common.{◌≡◌, ◌-◌, ◌+◌, ◌<◌, suc, false, List, Some, length, drop, length-drop, arith, sym, ap, ◌∙◌}
use Rattle.std.proofs.lemmas.Result.{err_from_is_err_and}
use Rattle.std.proofs.lemmas.List.{length_push}
use Rattle.std.specs.Prelude.{slice_get}
use Rattle.ror_text.specs.Cursor.{cursor_at}
use Rattle.ror_proof.specs.declared.answer.Answer.{Answer}
use Rattle.ror_proof.specs.Reading.{answer_at}
use Rattle.ror_proof.proofs.Loops.{with_front, lines_go_on, lines_exit, lines_end}
use Rattle.ror_report.specs.Reading.{ends_body, body_answers, answers_until}
use Rattle.ror_report.proofs.AnswerRuns.{answer_step, no_answers, goes_on_some}
use Rattle.ror_report.proofs.Bodies.{body_ends, last_pushed}
use Rattle.ror_report.proofs.read.body_answers.Goals as goal

pub returns-in_err-answer-clause-exact : goal.returns-in_err-answer-clause-exact
returns-in_err-answer-clause-exact c =
    let bytes = c.args.bytes.now in
    let next = c.answers.next in
    let more : ends_body (drop next bytes) ≡ false = sym c.answers-test.ensures in
    let some : 0 < length (drop next bytes) = goes_on_some ends_body body_ends (drop next bytes) more in
    let most = length bytes - c.args.from - length c.answers.answers.items in
    let is : most ≡ suc (most - 1) = omega (arith, length-drop next bytes, c.answers.invariant.room) in
    let p = err_from_is_err_and c.from_residual.result c.from_residual.ensures.1 in
    let t = c.args.table.now in
    let at = cursor_at bytes next in
    rw (p.1, p.2) (lines_exit (answers_until ends_body t) (answer_at t at) most (most - 1) c.answers.answers.items at c.in_err-answer.field-0.0 (body_answers t (length bytes - c.args.from) (cursor_at bytes c.args.from)) is (answer_step ends_body t (most - 1) at more) c.in_err-answer.ensures.exact c.answers.invariant.reads)

pub answers-preserved : goal.answers-preserved
answers-preserved c =
    let bytes = c.args.bytes.now in
    let next = c.answers.next in
    let more : ends_body (drop next bytes) ≡ false = sym c.answers-test.ensures in
    let some : 0 < length (drop next bytes) = goes_on_some ends_body body_ends (drop next bytes) more in
    let one_more : length c.push.new.self.items ≡ length c.answers.answers.items + 1 = ap length c.in_ok-push.ensures.items ∙ length_push c.answers.answers.items c.in_ok-answer.answer in
    let most = length bytes - c.args.from - length c.answers.answers.items in
    let left = length bytes - c.args.from - length c.push.new.self.items in
    let is : most ≡ suc left = omega (arith, length-drop next bytes, c.answers.invariant.room, one_more) in
    let pushed : slice_get c.push.new.self.items (length c.push.new.self.items - 1) ≡ Some c.in_ok-answer.answer = ap (λ (xs : List Answer). slice_get xs (length xs - 1)) c.in_ok-push.ensures.items ∙ last_pushed c.answers.answers.items c.in_ok-answer.answer in
    record {
      based = rw pushed c.in_ok-answer.ensures.based;
      onward = omega (arith, c.in_ok-answer.ensures.onward);
      within = c.in_ok-answer.ensures.within;
      room = omega (arith, one_more, c.in_ok-answer.ensures.onward, c.in_ok-answer.ensures.within, c.answers.invariant.room);
      reads = ap (λ xs. with_front xs (body_answers c.args.table.now left (cursor_at bytes c.in_ok-answer.after))) c.in_ok-push.ensures.items ∙ lines_go_on (answers_until ends_body c.args.table.now) (answer_at c.args.table.now (cursor_at bytes next)) most left c.answers.answers.items (cursor_at bytes next) (cursor_at bytes c.in_ok-answer.after) c.in_ok-answer.answer (body_answers c.args.table.now (length bytes - c.args.from) (cursor_at bytes c.args.from)) is (answer_step ends_body c.args.table.now left (cursor_at bytes next) more) c.in_ok-answer.ensures.exact c.answers.invariant.reads;
    }

pub returns-clause-exact : goal.returns-clause-exact
returns-clause-exact c =
    let bytes = c.args.bytes.now in
    let next = c.answers.next in
    let most = length bytes - c.args.from - length c.answers.answers.items in
    let t = c.args.table.now in
    let at = cursor_at bytes next in
    lines_end (body_answers t most at) c.answers.answers.items at (body_answers t (length bytes - c.args.from) (cursor_at bytes c.args.from)) (no_answers ends_body t most at (sym c.answers-test.ensures)) c.answers.invariant.reads
