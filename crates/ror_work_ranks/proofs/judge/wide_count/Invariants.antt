use Rattle.std.proofs.Common.{◌≡◌, ◌≤◌, take}
use Rattle.std.specs.List.{count_by}
use Rattle.ror_ranks.specs.Proof.{is_wide}
use Rattle.ror_work_ranks.proofs.judge.wide_count.Given as goal

abbrev pub invariant-loop-extreme : goal.invariant-loop-extreme
invariant-loop-extreme l = (l.count ≡ count_by (λ x. is_wide x.said) (take l.extreme-index l.extremes)) × (l.count ≤ l.extreme-index)
