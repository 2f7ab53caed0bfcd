use Rattle.std.proofs.Common.{sym, ap, ◌∙◌}
use Rattle.ror_text.specs.SpacedLines.{split_line, spaced_words}
use Rattle.ror_text.proofs.CursorLemmas.{ended_line, open_line, to_end}
use Rattle.ror_text.proofs.spaced.line_at.Goals as goal

pub returns-in-Some-clause-words : goal.returns-in-Some-clause-words
returns-in-Some-clause-words c =
    let bytes = c.args.bytes.now in
    let from = c.args.from in
    sym (ended_line bytes c.in-Some.line.now c.in-Some.field-0-1.now from (ap split_line (sym (to_end bytes from)) ∙ c.in-Some.ensures)).0

pub returns-in-Some-clause-next : goal.returns-in-Some-clause-next
returns-in-Some-clause-next c =
    let bytes = c.args.bytes.now in
    let from = c.args.from in
    sym (ended_line bytes c.in-Some.line.now c.in-Some.field-0-1.now from (ap split_line (sym (to_end bytes from)) ∙ c.in-Some.ensures)).1

pub returns-in-None-clause-words : goal.returns-in-None-clause-words
returns-in-None-clause-words c =
    let bytes = c.args.bytes.now in
    let from = c.args.from in
    ap spaced_words (to_end bytes from) ∙ sym (open_line bytes from (ap split_line (sym (to_end bytes from)) ∙ c.in-None.ensures)).0

pub returns-in-None-clause-next : goal.returns-in-None-clause-next
returns-in-None-clause-next c =
    let bytes = c.args.bytes.now in
    let from = c.args.from in
    sym (open_line bytes from (ap split_line (sym (to_end bytes from)) ∙ c.in-None.ensures)).1
