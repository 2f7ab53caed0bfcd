use Rattle.std.proofs.Common.{◌≡◌, true}
use Rattle.std.specs.Prelude.{IfSome}
use Rattle.ror_ranks.specs.Trees.{is_apart}
use Rattle.ror_ranks_find.proofs.packing.smallest_apart.Given as goal

abbrev pub invariant-loop-place : goal.invariant-loop-place
invariant-loop-place l = IfSome l.found (λ place. is_apart l.conflicts l.set place ≡ true)
