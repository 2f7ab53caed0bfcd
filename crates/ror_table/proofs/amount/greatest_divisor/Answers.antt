use Rattle.std.proofs.Common.{sym, ap, ◌∙◌}
use Rattle.ror_integers.specs.Gcd.{gcd}
use Rattle.ror_integers.proofs.Gcd.{gcd-mod, gcd-zero_right}
use Rattle.ror_table.proofs.amount.greatest_divisor.Goals as goal

pub steps-preserved : goal.steps-preserved
steps-preserved c = gcd-mod c.steps.last c.steps.rest ∙ c.steps.invariant

pub returns : goal.returns
returns c = sym (gcd-zero_right c.steps.last) ∙ ap (gcd c.steps.last) (sym c.steps-test.false) ∙ c.steps.invariant
