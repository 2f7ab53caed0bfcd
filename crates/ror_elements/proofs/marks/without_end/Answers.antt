use Rattle.std.proofs.Common.{◌∙◌, sym}
use Rattle.ror_elements.proofs.MarkLemmas.{last_white, last_other}
use Rattle.ror_elements.proofs.marks.without_end.Goals as goal

pub returns-then-not-is_white : goal.returns-then-not-is_white
returns-then-not-is_white c = sym (last_other c.back.rest.now c.in-len1-up.len_at_least (sym c.if-not-is_white.ensures)) ∙ c.back.invariant

pub back-preserved : goal.back-preserved
back-preserved c = last_white c.back.rest.now c.in-len1-up.len_at_least (sym c.if-not-is_white.ensures) ∙ c.back.invariant
