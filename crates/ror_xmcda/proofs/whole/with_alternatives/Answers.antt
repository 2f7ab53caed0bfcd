use Rattle.ror_table.specs.declared.limits.TheConstants.{MOST_ALTERNATIVES}
use Rattle.ror_table.specs.Table.{alternative_ids}
use Rattle.ror_xmcda.proofs.IdLemmas.{next_follows}
use Rattle.ror_xmcda.proofs.whole.with_alternatives.Goals as goal

pub with_alternative-requires-clause-valid : goal.with_alternative-requires-clause-valid
with_alternative-requires-clause-valid c =
    (next_follows MOST_ALTERNATIVES (alternative_ids c.loop-a.draft) c.args.ids.now c.loop-a.a c.index-ids-a.result c.as_str.result.now c.loop-a.invariant.ids c.loop-a-test.true c.index-ids-a.is c.as_str.ensures.value).valid

pub with_alternative-requires-clause-absent : goal.with_alternative-requires-clause-absent
with_alternative-requires-clause-absent c =
    (next_follows MOST_ALTERNATIVES (alternative_ids c.loop-a.draft) c.args.ids.now c.loop-a.a c.index-ids-a.result c.as_str.result.now c.loop-a.invariant.ids c.loop-a-test.true c.index-ids-a.is c.as_str.ensures.value).absent
