use Rattle.std.proofs.Common.{ℕ, List, sym, ap, subst, ◌∙◌}
use Rattle.std.specs.Prelude.{not, ◌==◌}
use Rattle.std.specs.List.{filter}
use Rattle.std.proofs.lemmas.Result.{IfOk-weaker}
use Rattle.ror_ranks.specs.Trees.{members_at}
use Rattle.ror_ranks_find.specs.Search.{AreAmong}
use Rattle.ror_ranks_find.proofs.FoundLemmas.{filter_among}
use Rattle.ror_ranks_find.proofs.SmallLemmas.{ordered_is_part}
use Rattle.ror_ranks_find.proofs.smaller.members_but.Goals as goal

pub returns : goal.returns
returns c =
    let whole = members_at c.args.conflict.now 0 in
    let test = λ (other : ℕ). not (other == c.args.member) in
    let is = c.as_slice.ensures.value ∙ c.in_ok-less.ensures ∙ ap (λ (ms : List ℕ). filter test ms) c.members_of_one.ensures in
    let among = subst (λ (ms : List ℕ). AreAmong whole ms) (sym is) (filter_among test whole) in
    IfOk-weaker c.in_order.result _ _ (λ less is. ordered_is_part c.args.asked.now whole c.as_slice.result.now less.items among is) c.in_order.ensures
