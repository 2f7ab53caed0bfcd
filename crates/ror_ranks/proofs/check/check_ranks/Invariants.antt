use Rattle.std.proofs.Common.{take}
use Rattle.std.specs.List.{AllByRecursion}
use Rattle.ror_check.specs.Proof.{base_system}
use Rattle.ror_ranks.specs.Proof.{IsProvedExtreme}
use Rattle.ror_ranks.proofs.check.check_ranks.Given as goal

abbrev pub invariant-loop-place : goal.invariant-loop-place
invariant-loop-place l = AllByRecursion (IsProvedExtreme l.table (base_system l.table l.list)) (take l.place l.extremes)
