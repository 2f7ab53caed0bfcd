use Rattle.std.proofs.Common.{rules, ◌≡◌, ◌≤◌, List, length, refl, sym, subst}
use Rattle.ror_ranks.specs.declared.extreme.Conflict.{Conflict}
use Rattle.ror_ranks.specs.declared.extreme.Node.{Node}
use Rattle.ror_ranks.specs.declared.limits.TheConstants.{MOST_NODES}
use Rattle.ror_ranks.specs.Ranks.{rank_of_count}
use Rattle.ror_ranks.specs.Trees.{IsTree}
use Rattle.ror_ranks_find.specs.Search.{AreCopiedFrom}
use Rattle.ror_ranks.proofs.OthersLemmas.{set_few}
use Rattle.ror_ranks_find.proofs.ConcludeLemmas.{counts_by, within_is}
use Rattle.ror_ranks_find.proofs.FindLemmas.{goal_within}
use Rattle.ror_ranks_find.proofs.find.within.Goals as goal

pub rank_of_count-of_all-requires-clause-within : goal.rank_of_count-of_all-requires-clause-within
rank_of_count-of_all-requires-clause-within c =
    let low = goal_within c.args.sought.now c.args.found c.args.done c.requires.sought.alternative c.requires.found c.requires.done.0 in
    search (rules, low)

pub rank_of_count-of_one-requires-clause-within : goal.rank_of_count-of_one-requires-clause-within
rank_of_count-of_one-requires-clause-within c =
    let few = set_few c.args.sought.now.asked.table.now c.args.sought.now.asked.alternative c.args.found.except c.requires.sought.alternative c.requires.found.reached.0.others in
    search (rules, few)

pub returns : goal.returns
returns c =
    let s = c.args.sought.now in
    let side = s.asked.side in
    let n = length s.asked.table.now.alternatives in
    let shown = c.in_ok-shown.ensures in
    let found = c.args.found.conflicts.items in
    let goals = c.args.done.goal in
    let copies = c.in_ok-shown.shown.conflicts.items in
    let conflicts : c.from.result ≡ copies = c.from.ensures in
    let nodes : c.from-2.result ≡ c.in_ok-shown.shown.nodes.items = c.from-2.ensures in
    let all : c.rank_of_count-of_all.result ≡ rank_of_count side n goals = search rules in
    let one : c.rank_of_count-of_one.result ≡ rank_of_count side n (length c.args.found.except) = search rules in
    within_is s c.args.found c.args.done _ c.requires.sought.alternative c.requires.found
    (counts_by side n goals c.rank_of_count-of_all.result c.rank_of_count-of_one.result _ (search rules) all one)
    refl refl
    (subst (λ (cs : List Conflict). AreCopiedFrom found cs) (sym conflicts) shown.0)
    (subst (λ (cs : List Conflict). length cs ≤ length found) (sym conflicts) shown.1)
    (subst (λ (cs : List Conflict). IsTree cs goals c.from-2.result) (sym conflicts) (subst (λ (ns : List Node). IsTree copies goals ns) (sym nodes) shown.2))
    (subst (λ (ns : List Node). length ns ≤ MOST_NODES) (sym nodes) shown.3)
