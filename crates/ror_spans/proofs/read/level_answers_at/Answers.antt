use Rattle.std.proofs.Common.{◌≡◌, ◌-◌, ◌+◌, ◌<◌, suc, true, List, length, drop, length-drop, arith, sym, ap, ◌∙◌}
use Rattle.std.proofs.lemmas.Result.{err_from_is_err_and}
use Rattle.std.proofs.lemmas.List.{length_push}
use Rattle.ror_text.specs.Cursor.{cursor_at}
use Rattle.ror_proof.proofs.Loops.{with_front, lines_go_on, lines_exit, lines_end}
use Rattle.ror_confidence.specs.declared.span.LevelAnswer.{LevelAnswer}
use Rattle.ror_spans.specs.Reading.{begins_level, level_answer_at, level_answers_at}
use Rattle.ror_spans.proofs.LevelLoops.{answer_step, no_answers, goes_on_some}
use Rattle.ror_spans.proofs.read.level_answers_at.Goals as goal

pub returns-in_err-answer-clause-exact : goal.returns-in_err-answer-clause-exact
returns-in_err-answer-clause-exact c =
    let bytes = c.args.bytes.now in
    let t = c.args.table.now in
    let next = c.answers.next in
    let more : begins_level (drop next bytes) ≡ true = sym c.answers-test.ensures in
    let some : 0 < length (drop next bytes) = goes_on_some (drop next bytes) more in
    let most = length bytes - c.args.from - length c.answers.answers.items in
    let is : most ≡ suc (most - 1) = omega (arith, length-drop next bytes, c.answers.invariant.room) in
    let p = err_from_is_err_and c.from_residual.result c.from_residual.ensures.1 in
    rw (p.1, p.2) (lines_exit (level_answers_at t) (level_answer_at t (cursor_at bytes next)) most (most - 1) c.answers.answers.items (cursor_at bytes next) c.in_err-answer.field-0.0 (level_answers_at t (length bytes - c.args.from) (cursor_at bytes c.args.from)) is (answer_step t (most - 1) (cursor_at bytes next) more) c.in_err-answer.ensures.exact c.answers.invariant.reads)

pub answers-preserved : goal.answers-preserved
answers-preserved c =
    let bytes = c.args.bytes.now in
    let t = c.args.table.now in
    let next = c.answers.next in
    let after = c.in_ok-answer.after in
    let more : begins_level (drop next bytes) ≡ true = sym c.answers-test.ensures in
    let some : 0 < length (drop next bytes) = goes_on_some (drop next bytes) more in
    let one_more : length c.push.new.self.items ≡ length c.answers.answers.items + 1 = ap length c.in_ok-push.ensures.items ∙ length_push c.answers.answers.items c.in_ok-answer.answer in
    let most = length bytes - c.args.from - length c.answers.answers.items in
    let left = length bytes - c.args.from - length c.push.new.self.items in
    let is : most ≡ suc left = omega (arith, length-drop next bytes, c.answers.invariant.room, one_more) in
    record {
      onward = omega (arith, c.in_ok-answer.ensures.onward);
      within = c.in_ok-answer.ensures.within;
      room = omega (arith, one_more, c.in_ok-answer.ensures.onward, c.in_ok-answer.ensures.within, c.answers.invariant.room);
      reads = ap (λ (xs : List LevelAnswer). with_front xs (level_answers_at t left (cursor_at bytes after))) c.in_ok-push.ensures.items ∙ lines_go_on (level_answers_at t) (level_answer_at t (cursor_at bytes next)) most left c.answers.answers.items (cursor_at bytes next) (cursor_at bytes after) c.in_ok-answer.answer (level_answers_at t (length bytes - c.args.from) (cursor_at bytes c.args.from)) is (answer_step t left (cursor_at bytes next) more) c.in_ok-answer.ensures.exact c.answers.invariant.reads;
    }

pub returns-clause-exact : goal.returns-clause-exact
returns-clause-exact c =
    let bytes = c.args.bytes.now in
    let most = length bytes - c.args.from - length c.answers.answers.items in
    let t = c.args.table.now in
    let at = cursor_at bytes c.answers.next in
    lines_end (level_answers_at t most at) c.answers.answers.items at (level_answers_at t (length bytes - c.args.from) (cursor_at bytes c.args.from)) (no_answers t most at (sym c.answers-test.ensures)) c.answers.invariant.reads
