use Rattle.std.proofs.Common.{subst, sym}
use Rattle.std.specs.Prelude.{IfOk}
use Rattle.std.proofs.lemmas.Result.{IfOk-weaker}
use Rattle.ror_show_find_reasons.specs.declared.bounds.Side.TheVariants.{Below, Above}
use Rattle.ror_show_find_reasons.specs.Bounds.{IsBound}
use Rattle.ror_show_find_reasons.proofs.settling.find_both.Goals as goal

pub returns : goal.returns
returns c =
    let t = c.args.stood.now.table.now in
    let list = c.args.stood.now.list.now in
    let xs = c.args.stood.now.answers.now in
    IfOk-weaker c.both_of.result _ _
    (λ bounds is. (subst (IsBound Below t list xs) (sym is.0) c.in_ok-below.ensures, subst (λ r. IfOk r (IsBound Above t list xs)) is.1 c.find_bound-above.ensures))
    c.both_of.ensures
