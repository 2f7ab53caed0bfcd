use Rattle.std.proofs.Common.{rules, ◌≡◌, inl, refl}
use Rattle.std.proofs.lemmas.Result.{IfOk-weaker}
use Rattle.ror_ranks_find.specs.declared.growing.State.TheVariants as states
use Rattle.ror_ranks_find.specs.Search.{IsConcluded}
use Rattle.ror_ranks_find.proofs.ConcludeLemmas.{concluded_within}
use Rattle.ror_ranks_find.proofs.find.conclude.Goals as goal

pub returns-then-is_given_up : goal.returns-then-is_given_up
returns-then-is_given_up c =
    let wide : c.args.state ≡ states.Wide = (c.if-is_given_up.ensures.0 refl).0 in
    IfOk-weaker c.wide.result _ (IsConcluded c.args.sought.now c.args.found c.args.done c.args.state) (λ x last. inl (wide, last)) c.wide.ensures

pub returns : goal.returns
returns c =
    let s = c.args.sought.now in
    let found = c.args.found in
    let done = c.args.done in
    let state = c.args.state in
    IfOk-weaker c.within.result _ (IsConcluded s found done state) (λ x within. concluded_within s found done state x (λ both. let no = c.if-is_given_up.ensures.1 both in search rules) within) c.within.ensures
