use Rattle.std.proofs.Common.{◌≡◌, ◌≤◌, ◌-◌, ◌+◌, ◌<◌, suc, false, List, ℕ, length, drop, length-drop, arith, sym, ap, ◌∙◌, subst, Ok, Err}
use Rattle.std.specs.Prelude.{IfSome}
use Rattle.std.proofs.lemmas.Result.{err_from_is_err_and}
use Rattle.std.proofs.lemmas.List.{length_push}
use Rattle.ror_text.specs.Cursor.{cursor_at}
use Rattle.ror_proof.specs.Reading.{proof_fault, answer_at}
use Rattle.ror_proof.specs.declared.answer.Answer.{Answer}
use Rattle.ror_proof.proofs.Loops.{with_front, lines_go_on, lines_exit, lines_end}
use Rattle.ror_report.specs.Reading.{answers_until}
use Rattle.ror_report.proofs.AnswerRuns.{answer_step, no_answers, goes_on_some}
use Rattle.ror_group.specs.Reading.{ends_answers, entry_answers}
use Rattle.ror_group.proofs.EntryLines.{entry_ends}
use Rattle.ror_group.proofs.reader.EntryReader.answers.Goals as goal

pub returns-in_err-answer-clause-exact : goal.returns-in_err-answer-clause-exact
returns-in_err-answer-clause-exact c =
    let bytes = c.bytes-bytes.result.now in
    let t = c.args.table.now in
    let next = c.answers.next in
    let more : ends_answers (drop next bytes) ≡ false = sym c.answers-test.ensures in
    let some : 0 < length (drop next bytes) = goes_on_some ends_answers entry_ends (drop next bytes) more in
    let most = length bytes - c.args.from - length c.answers.answers.items in
    let is : most ≡ suc (most - 1) = omega (arith, length-drop next bytes, c.answers.invariant.room) in
    let one = subst (λ (l : List ℕ). IfSome (proof_fault c.in_err-answer.field-0.0) (λ f. answer_at t (cursor_at l next) ≡ Err f)) c.answers.invariant.kept c.in_err-answer.ensures.exact in
    let p = err_from_is_err_and c.from_residual.result c.from_residual.ensures.1 in
    rw (p.1, p.2, ← c.bytes-bytes.ensures) (lines_exit (answers_until ends_answers t) (answer_at t (cursor_at bytes next)) most (most - 1) c.answers.answers.items (cursor_at bytes next) c.in_err-answer.field-0.0 (entry_answers t (length bytes - c.args.from) (cursor_at bytes c.args.from)) is (answer_step ends_answers t (most - 1) (cursor_at bytes next) more) one c.answers.invariant.reads)

pub answers-preserved : goal.answers-preserved
answers-preserved c =
    let bytes = c.bytes-bytes.result.now in
    let t = c.args.table.now in
    let next = c.answers.next in
    let after = c.in_ok-answer.after in
    let more : ends_answers (drop next bytes) ≡ false = sym c.answers-test.ensures in
    let some : 0 < length (drop next bytes) = goes_on_some ends_answers entry_ends (drop next bytes) more in
    let one_more : length c.push.new.self.items ≡ length c.answers.answers.items + 1 = ap length c.in_ok-push.ensures.items ∙ length_push c.answers.answers.items c.in_ok-answer.answer in
    let most = length bytes - c.args.from - length c.answers.answers.items in
    let left = length bytes - c.args.from - length c.push.new.self.items in
    let is : most ≡ suc left = omega (arith, length-drop next bytes, c.answers.invariant.room, one_more) in
    let within : after ≤ length bytes = subst (λ (l : List ℕ). after ≤ length l) c.answers.invariant.kept c.in_ok-answer.ensures.within in
    let one = subst (λ (l : List ℕ). answer_at t (cursor_at l next) ≡ Ok (c.in_ok-answer.answer, cursor_at l after)) c.answers.invariant.kept c.in_ok-answer.ensures.exact in
    record {
      kept = c.answer.ensures.kept ∙ c.answers.invariant.kept;
      onward = omega (arith, c.in_ok-answer.ensures.onward);
      within = within;
      room = omega (arith, one_more, c.in_ok-answer.ensures.onward, within, c.answers.invariant.room);
      reads = ap (λ (xs : List Answer). with_front xs (entry_answers t left (cursor_at bytes after))) c.in_ok-push.ensures.items ∙ lines_go_on (answers_until ends_answers t) (answer_at t (cursor_at bytes next)) most left c.answers.answers.items (cursor_at bytes next) (cursor_at bytes after) c.in_ok-answer.answer (entry_answers t (length bytes - c.args.from) (cursor_at bytes c.args.from)) is (answer_step ends_answers t left (cursor_at bytes next) more) one c.answers.invariant.reads;
    }

pub returns-clause-exact : goal.returns-clause-exact
returns-clause-exact c =
    let bytes = c.bytes-bytes.result.now in
    let next = c.answers.next in
    let most = length bytes - c.args.from - length c.answers.answers.items in
    let t = c.args.table.now in
    let at = cursor_at bytes next in
    rw (← c.bytes-bytes.ensures) (lines_end (entry_answers t most at) c.answers.answers.items at (entry_answers t (length bytes - c.args.from) (cursor_at bytes c.args.from)) (no_answers ends_answers t most at (sym c.answers-test.ensures)) c.answers.invariant.reads)
