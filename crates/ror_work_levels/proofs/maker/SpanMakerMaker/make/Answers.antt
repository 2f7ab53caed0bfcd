use Rattle.std.proofs.Common.{◌<◌, length, sym, ◌∙◌, subst}
use Rattle.ror_table.specs.Table.{DecisionTable}
use Rattle.ror_entries.proofs.PairLemmas.{pair_there}
use Rattle.ror_work_levels.proofs.maker.SpanMakerMaker.make.Goals as goal

pub entry_of-requires-clause-first : goal.entry_of-requires-clause-first
entry_of-requires-clause-first c =
    let t = c.self.inside.bench.table in
    let p = pair_there t c.as_slice.result.now c.args.place c.pair_at-pair.result (c.as_slice.ensures.value ∙ c.self.invariant.pairs_are) c.pair_at-pair.ensures in
    subst (λ (u : DecisionTable). c.pair_at-pair.result.0 < length u.alternatives) (sym c.table-table.ensures.value) p.1

pub entry_of-requires-clause-second : goal.entry_of-requires-clause-second
entry_of-requires-clause-second c =
    let t = c.self.inside.bench.table in
    let p = pair_there t c.as_slice.result.now c.args.place c.pair_at-pair.result (c.as_slice.ensures.value ∙ c.self.invariant.pairs_are) c.pair_at-pair.ensures in
    subst (λ (u : DecisionTable). c.pair_at-pair.result.1 < length u.alternatives) (sym c.table-table.ensures.value) p.2
