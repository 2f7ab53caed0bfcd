use Rattle.std.proofs.Common.{◌∙◌, refl, sym, subst}
use Rattle.ror_bench.specs.declared.report.Reason.TheVariants as reasons
use Rattle.ror_work_levels.specs.Entries.{RefusesEntry, other_pair}
use Rattle.ror_work_levels.specs.Steps.{SpanJudging}
use Rattle.ror_work_levels.proofs.KindLemmas.{other_there}
use Rattle.ror_work_levels.proofs.judge.SpanJudgeJudge.check.Goals as goal

pub returns-then-ne-clause-refused : goal.returns-then-ne-clause-refused
returns-then-ne-clause-refused c =
    let t = c.self.inside.bench.table in
    let x = c.args.entry.now in
    subst (λ (j : SpanJudging). RefusesEntry j.table j.lists c.args.place x reasons.WrongBlock) c.self.view_is
    (other_pair (other_there t c.as_slice.result.now c.args.place c.pair_at-pair.result c.pair_of.result x (c.as_slice.ensures.value ∙ c.self.invariant.pairs_are) c.pair_at-pair.ensures c.pair_of.ensures (sym c.ne.ensures ∙ c.if-ne.true)) refl)
