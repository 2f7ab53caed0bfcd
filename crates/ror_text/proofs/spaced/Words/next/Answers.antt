use Rattle.std.proofs.Common.{sym, ◌∙◌, ◌+◌}
use Rattle.ror_text.proofs.CursorLemmas.{cut_at, uncut, to_end}
use Rattle.ror_text.proofs.spaced.Words.next.Goals as goal

pub returns-in-Some : goal.returns-in-Some
returns-in-Some c =
    let line = c.in_ok-line.line.now in
    rw (to_end line (c.in-Some.end + 1), ← c.self.view_is, c.in_ok-line.was) (cut_at line c.in-Some.end (sym c.space.ensures ∙ c.in-Some.is))

pub returns-in-None : goal.returns-in-None
returns-in-None c =
    let line = c.in_ok-line.line.now in
    rw (← c.self.view_is, c.in_ok-line.was) (uncut line (sym c.space.ensures ∙ c.in-None.is))
