use Rattle.std.proofs.Common.{◌≡◌, length}
use Rattle.ror_elements.specs.Marks.{without_end}
use Rattle.ror_elements.proofs.marks.without_end.Given as goal

abbrev pub invariant-back : goal.invariant-back
invariant-back l = without_end l.rest ≡ without_end l.text

abbrev pub decreases-back : goal.decreases-back
decreases-back l = length l.rest
