use Rattle.std.proofs.Common.{ℕ, ap, subst, ◌∙◌}
use Rattle.std.proofs.lemmas.Result.{IfOk-weaker}
use Rattle.ror_show_find_reasons.specs.Bounds.{end_of, IsBoundFrom}
use Rattle.ror_show_find_reasons.proofs.settling.find_bound.Goals as goal

pub returns : goal.returns
returns c =
    let s = c.args.stood.now in
    IfOk-weaker c.bound_from.result _ _
    (λ found is. subst (λ (end : ℕ). IsBoundFrom c.args.side end s.table.now s.list.now s.answers.now found) (c.end_of-end.ensures ∙ ap (end_of c.args.side s.answers.now) c.classes.ensures.number) is)
    c.bound_from.ensures
