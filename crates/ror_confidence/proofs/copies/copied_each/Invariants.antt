use Rattle.std.proofs.Common.{◌≡◌, ◌++◌, drop}
use Rattle.ror_confidence.proofs.copies.copied_each.Given as goal

abbrev pub invariant-answers : goal.invariant-answers
invariant-answers l = l.copies.items ++ drop l.x-index l.answers ≡ l.answers
