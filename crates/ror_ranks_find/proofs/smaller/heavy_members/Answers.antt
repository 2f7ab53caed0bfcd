use Rattle.std.proofs.Common.{ℕ, List, sym, subst}
use Rattle.std.proofs.lemmas.Result.{IfOk-weaker}
use Rattle.ror_ranks.specs.Trees.{members_at}
use Rattle.ror_ranks_find.specs.Search.{AreAmong}
use Rattle.ror_ranks_find.proofs.SmallLemmas.{ordered_is_part}
use Rattle.ror_ranks_find.proofs.smaller.heavy_members.Goals as goal

pub returns : goal.returns
returns c =
    let whole = members_at c.args.conflict.now 0 in
    let among = subst (λ (ms : List ℕ). AreAmong whole ms) (sym c.as_slice.ensures.value) c.in_ok-heavy.ensures in
    IfOk-weaker c.in_order.result _ _ (λ heavy is. ordered_is_part c.args.asked.now whole c.as_slice.result.now heavy.items among is) c.in_order.ensures
