use Rattle.std.proofs.Common.{◌≡◌, ◌-◌, ◌+◌, ◌<◌, suc, true, length, drop, length-drop, arith, sym, ap, ◌∙◌}
use Rattle.std.proofs.lemmas.Result.{err_from_is_err_and}
use Rattle.std.proofs.lemmas.List.{length_push}
use Rattle.ror_text.specs.Cursor.{cursor_at}
use Rattle.ror_proof.specs.Reading.{begins_part, part_line, part_lines}
use Rattle.ror_proof.proofs.Loops.{with_front, lines_go_on, lines_exit, lines_end, part_step, no_parts, begins_some}
use Rattle.ror_proof.proofs.read.part_lines.Goals as goal

pub returns-in_err-part-clause-exact : goal.returns-in_err-part-clause-exact
returns-in_err-part-clause-exact c =
    let bytes = c.args.bytes.now in
    let next = c.parts.next in
    let begins : begins_part (drop next bytes) ≡ true = sym c.parts-test.ensures in
    let some : 0 < length (drop next bytes) = begins_some (drop next bytes) begins in
    let most = length bytes - c.args.from - length c.parts.parts.items in
    let is : most ≡ suc (most - 1) = omega (arith, length-drop next bytes, c.parts.invariant.room) in
    let p = err_from_is_err_and c.from_residual.result c.from_residual.ensures.1 in
    rw (p.1, p.2) (lines_exit part_lines (part_line (cursor_at bytes next)) most (most - 1) c.parts.parts.items (cursor_at bytes next) c.in_err-part.field-0.0 (part_lines (length bytes - c.args.from) (cursor_at bytes c.args.from)) is (part_step (most - 1) (cursor_at bytes next) begins) c.in_err-part.ensures.exact c.parts.invariant.reads)

pub parts-preserved : goal.parts-preserved
parts-preserved c =
    let bytes = c.args.bytes.now in
    let next = c.parts.next in
    let begins : begins_part (drop next bytes) ≡ true = sym c.parts-test.ensures in
    let some : 0 < length (drop next bytes) = begins_some (drop next bytes) begins in
    let one_more : length c.push.new.self.items ≡ length c.parts.parts.items + 1 = ap length c.in_ok-push.ensures.items ∙ length_push c.parts.parts.items c.in_ok-part.part in
    let most = length bytes - c.args.from - length c.parts.parts.items in
    let left = length bytes - c.args.from - length c.push.new.self.items in
    let is : most ≡ suc left = omega (arith, length-drop next bytes, c.parts.invariant.room, one_more) in
    record {
      onward = omega (arith, c.in_ok-part.ensures.onward);
      within = c.in_ok-part.ensures.within;
      room = omega (arith, one_more, c.in_ok-part.ensures.onward, c.in_ok-part.ensures.within, c.parts.invariant.room);
      reads = ap (λ xs. with_front xs (part_lines left (cursor_at bytes c.in_ok-part.after))) c.in_ok-push.ensures.items ∙ lines_go_on part_lines (part_line (cursor_at bytes next)) most left c.parts.parts.items (cursor_at bytes next) (cursor_at bytes c.in_ok-part.after) c.in_ok-part.part (part_lines (length bytes - c.args.from) (cursor_at bytes c.args.from)) is (part_step left (cursor_at bytes next) begins) c.in_ok-part.ensures.exact c.parts.invariant.reads;
    }

pub returns-clause-exact : goal.returns-clause-exact
returns-clause-exact c =
    let bytes = c.args.bytes.now in
    let next = c.parts.next in
    let most = length bytes - c.args.from - length c.parts.parts.items in
    lines_end (part_lines most (cursor_at bytes next)) c.parts.parts.items (cursor_at bytes next) (part_lines (length bytes - c.args.from) (cursor_at bytes c.args.from)) (no_parts most (cursor_at bytes next) (sym c.parts-test.ensures)) c.parts.invariant.reads
