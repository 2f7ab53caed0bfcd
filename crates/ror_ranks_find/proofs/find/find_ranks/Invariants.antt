use Rattle.std.proofs.Common.{◌≡◌, ◌≤◌, map}
use Rattle.std.specs.List.{AllByRecursion}
use Rattle.ror_pivot.specs.Answers.{most_of}
use Rattle.ror_check.specs.Proof.{base_system}
use Rattle.ror_ranks.specs.Proof.{due_extremes, extreme_of}
use Rattle.ror_ranks.specs.Finding.{IsGivenExtreme}
use Rattle.ror_ranks_find.proofs.find.find_ranks.Given as goal

abbrev pub invariant-loop-alternative : goal.invariant-loop-alternative
invariant-loop-alternative l = record {
  due : map extreme_of l.extremes.items ≡ due_extremes l.alternative;
  each : AllByRecursion (IsGivenExtreme (most_of l.fn.bits) l.table (base_system l.table l.list)) l.extremes.items;
  counted : l.fn.engine.pivots ≤ l.engine.pivots;
}
