use Rattle.std.proofs.Common.{◌≡◌, map}
use Rattle.std.specs.List.{AllByRecursion, range_with_len}
use Rattle.ror_value.specs.Over.{IsLawfulIn}
use Rattle.ror_history.specs.History.{statements_of}
use Rattle.ror_bench.specs.Bench.{revisions_at}
use Rattle.ror_closing.proofs.closing.standing_lists.Given as goal

abbrev pub invariant-loop-desk : goal.invariant-loop-desk
invariant-loop-desk l = record {
  listed : l.lists.items ≡ map (λ desk. statements_of (revisions_at l.fn.bench desk)) (range_with_len 0 l.desk);
  lawful : AllByRecursion (IsLawfulIn l.fn.bench.table) l.lists.items;
}
