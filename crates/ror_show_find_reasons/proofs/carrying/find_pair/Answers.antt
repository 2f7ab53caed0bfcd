use Rattle.std.proofs.Common.{sym, subst}
use Rattle.std.specs.Prelude.{IfOk}
use Rattle.std.proofs.lemmas.Result.{IfOk-weaker}
use Rattle.ror_show_find_reasons.specs.Pairs.{IsCarriedBy, IsBetterBy}
use Rattle.ror_show_find_reasons.proofs.carrying.find_pair.Goals as goal

pub returns : goal.returns
returns c =
    let t = c.args.stood.now.table.now in
    let list = c.args.stood.now.list.now in
    let xs = c.args.stood.now.answers.now in
    IfOk-weaker c.with_better.result _ _
    (λ f is. (is.0, subst (IsCarriedBy t list xs c.args.pair) (sym is.1) c.in_ok-reason.ensures, subst (λ r. IfOk r (IsBetterBy t list xs c.args.pair)) is.2 c.better_of-better.ensures))
    c.with_better.ensures
