use Rattle.std.proofs.Common.{sym, ap, ◌∙◌}
use Rattle.std.specs.Prelude.{is_some}
use Rattle.ror_text.proofs.CursorLemmas.{few_words}
use Rattle.ror_text.proofs.spaced.Words.is_at_most_one.Goals as goal

pub returns-in-Some : goal.returns-in-Some
returns-in-Some c = rw (← c.self.view_is, c.in-Some.is) (few_words c.in-Some.line.now c.is_none.result (ap is_some (sym c.space.ensures) ∙ c.is_none.ensures))
