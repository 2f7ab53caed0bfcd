use Rattle.std.proofs.Common.{rules}
use Rattle.ror_check.proofs.Checking.{length-numbered}
use Rattle.ror_check.proofs.check.are_all.Goals as goal

pub returns-then-parts-count : goal.returns-then-parts-count
returns-then-parts-count c = (λ no. search rules, λ numbered. absurd (c.if-parts-count.true (length-numbered _ c.args.parts.now numbered)))
