use Rattle.std.proofs.Common.{◌≡◌, length}
use Rattle.ror_elements.specs.Marks.{without_start}
use Rattle.ror_elements.proofs.marks.without_start.Given as goal

abbrev pub invariant-front : goal.invariant-front
invariant-front l = without_start l.rest ≡ without_start l.text

abbrev pub decreases-front : goal.decreases-front
decreases-front l = length l.rest
