use Rattle.std.proofs.Common.{◌≡◌, false}
use Rattle.std.specs.List.{list_any, range_with_len}
use Rattle.ror_table.specs.Table.{has_wide_weights}
use Rattle.ror_table.proofs.WeightLemmas.{AreWeightsBefore}
use Rattle.ror_table.proofs.weights.all_weights.Given as goal

abbrev pub invariant-loop-i : goal.invariant-loop-i
invariant-loop-i l = record {
  weights : AreWeightsBefore l.draft l.i l.all.items;
  narrow : list_any (has_wide_weights l.draft) (range_with_len 0 l.i) ≡ false;
}
