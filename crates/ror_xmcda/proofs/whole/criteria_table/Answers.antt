use Rattle.ror_table.specs.declared.limits.TheConstants.{MOST_CRITERIA}
use Rattle.ror_table.specs.Table.{criterion_ids}
use Rattle.ror_xmcda.proofs.IdLemmas.{next_follows}
use Rattle.ror_xmcda.proofs.whole.criteria_table.Goals as goal

pub put_criterion-requires-clause-valid : goal.put_criterion-requires-clause-valid
put_criterion-requires-clause-valid c =
    (next_follows MOST_CRITERIA (criterion_ids c.loop-k.draft) c.as_slice-ids.result.now c.loop-k.k c.index-ids-k.result c.as_str.result.now c.loop-k.invariant.ids c.loop-k-test.true c.index-ids-k.is c.as_str.ensures.value).valid

pub put_criterion-requires-clause-absent : goal.put_criterion-requires-clause-absent
put_criterion-requires-clause-absent c =
    (next_follows MOST_CRITERIA (criterion_ids c.loop-k.draft) c.as_slice-ids.result.now c.loop-k.k c.index-ids-k.result c.as_str.result.now c.loop-k.invariant.ids c.loop-k-test.true c.index-ids-k.is c.as_str.ensures.value).absent
