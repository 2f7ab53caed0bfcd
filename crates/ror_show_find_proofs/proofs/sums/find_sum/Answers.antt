use Rattle.std.proofs.Common.{sym, subst, ◌∙◌}
use Rattle.ror_rows.specs.Laws.{AreNamed}
use Rattle.ror_show_find_proofs.proofs.LinearLemmas.{compared_named}
use Rattle.ror_show_find_proofs.proofs.sums.find_sum.Goals as goal

pub sum_for-requires : goal.sum_for-requires
sum_for-requires c = subst (AreNamed c.args.table.now) (sym (c.as_slice.ensures.value ∙ c.in_ok-comparisons.ensures))
    (compared_named c.args.table.now c.args.list.now c.args.question.now c.args.verdict.now c.requires.lawful c.requires.asked)
