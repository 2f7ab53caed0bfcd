use Rattle.std.proofs.Common.{arith}
use Rattle.ror_table.specs.Table.{has_wide_weights, has_wide_scale}
use Rattle.ror_table.proofs.WeightLemmas.{gives_passed, not_from_refuse, list_any-at, list_any-more, AreWeightsBefore-more}
use Rattle.ror_table.proofs.weights.all_weights.Goals as goal

pub returns-in_err-weights_on-clause-exact : goal.returns-in_err-weights_on-clause-exact
returns-in_err-weights_on-clause-exact c =
    let t = c.args.draft.now in
    let i = c.loop-i.i in
    gives_passed c.from_residual.result c.in_err-weights_on.field-0.0 (has_wide_weights t i) (has_wide_scale t) c.from_residual.ensures.1 c.in_err-weights_on.ensures.exact
    (λ wide. list_any-at (has_wide_weights t) _ i (omega (arith, c.loop-i-test.true, c.criteria_count-i-end.ensures.number)) wide)

pub loop-i-preserved : goal.loop-i-preserved
loop-i-preserved c =
    let t = c.args.draft.now in
    let i = c.loop-i.i in
    record {
      weights = AreWeightsBefore-more t i c.loop-i.all.items c.push.new.self.items c.in_ok-weights_on.field-0 c.loop-i.invariant.weights c.in_ok-weights_on.ensures.weights c.in_ok-push.ensures.items;
      narrow = list_any-more (has_wide_weights t) i c.loop-i.invariant.narrow (not_from_refuse (has_wide_weights t i) c.in_ok-weights_on.ensures.exact);
    }
