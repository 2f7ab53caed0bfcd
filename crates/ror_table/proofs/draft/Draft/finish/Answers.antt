use Rattle.std.proofs.Common.{subst, refl}
use Rattle.ror_table.specs.declared.fault.DraftFault.TheVariants.{WideScale}
use Rattle.ror_table.specs.Table.{has_wide_scale}
use Rattle.ror_table.specs.Draft.{IsDraft}
use Rattle.ror_table.proofs.IndexLemmas.{IsTable-from_tests, refused_not}
use Rattle.ror_table.proofs.draft.Draft.finish.Goals as goal

pub invariant_of-result : goal.invariant_of-result
invariant_of-result c = record {
  table = IsTable-from_tests c.args.self _ _ c.in_ok-index.index.columns (subst IsDraft c.self.view_is c.self.invariant) c.is_empty.ensures c.in_ok-refuse_if.ensures refl c.in_ok-refuse_if-2.ensures c.in_ok-index.ensures.total
      (refused_not WideScale (has_wide_scale c.args.self) c.in_ok-weights.ensures.exact);
  right_levels = c.in_ok-index.ensures.levels;
  right_weights = c.in_ok-weights.ensures.weights;
  right_offsets = c.in_ok-index.ensures.offsets;
}

pub returns-clause-table : goal.returns-clause-table
returns-clause-table c =
    IsTable-from_tests c.args.self _ _ c.in_ok-index.index.columns (subst IsDraft c.self.view_is c.self.invariant) c.is_empty.ensures c.in_ok-refuse_if.ensures refl c.in_ok-refuse_if-2.ensures c.in_ok-index.ensures.total
    (refused_not WideScale (has_wide_scale c.args.self) c.in_ok-weights.ensures.exact)
