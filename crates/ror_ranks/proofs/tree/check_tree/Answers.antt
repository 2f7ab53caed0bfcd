use Rattle.std.proofs.Common.{rules, ◌≡◌, ◌≤◌, true, false, [], ◌∷◌, ◌++◌, length, Some, reverse, sym, ap, ◌∙◌}
use Rattle.ror_check.proofs.Checking.{slice_get-at}
use Rattle.ror_ranks.specs.Trees.{may_stand, sets_below}
use Rattle.ror_ranks.proofs.StepLemmas.{IsLeft, node_refused, left_after, unfinished}
use Rattle.ror_ranks.proofs.tree.check_tree.Goals as goal

pub returns-then-not-branch : goal.returns-then-not-branch
returns-then-not-branch c =
    let conflicts = c.args.conflicts.now in
    let nodes = c.args.nodes.now in
    let front = c.pop.new.self.items in
    let set = c.in-Some.set in
    let node = c.index-nodes-place.result in
    let place = c.loop-place.place in
    let there = slice_get-at nodes place node c.loop-place-test.true c.index-nodes-place.is in
    let left : IsLeft conflicts c.args.goal nodes place (front ++ set ∷ []) = c.loop-place.invariant ∙ ap (λ ss. Some (reverse ss)) c.in-Some.ensures.items in
    let not_ : may_stand conflicts c.args.goal set node ≡ false = search rules in
    node_refused conflicts c.args.goal nodes place node front set there left not_

pub loop-place-preserved : goal.loop-place-preserved
loop-place-preserved c =
    let conflicts = c.args.conflicts.now in
    let nodes = c.args.nodes.now in
    let front = c.pop.new.self.items in
    let set = c.in-Some.set in
    let node = c.index-nodes-place.result in
    let place = c.loop-place.place in
    let there = slice_get-at nodes place node c.loop-place-test.true c.index-nodes-place.is in
    let left : IsLeft conflicts c.args.goal nodes place (front ++ set ∷ []) = c.loop-place.invariant ∙ ap (λ ss. Some (reverse ss)) c.in-Some.ensures.items in
    let stands : may_stand conflicts c.args.goal set node ≡ true = search rules in
    let pushed : c.push_below.new.sets.items ≡ front ++ reverse (sets_below conflicts set node) = search rules in
    left_after conflicts c.args.goal nodes place node front set there left stands ∙ ap (λ ss. Some (reverse ss)) (sym pushed)

pub returns : goal.returns
returns c =
    let past : length c.args.nodes.now ≤ c.loop-place.place = search rules in
    let some : c.loop-place.sets.items ≡ [] → ⊥ = search rules in
    unfinished c.args.conflicts.now c.args.goal c.args.nodes.now c.loop-place.place c.loop-place.sets.items past c.loop-place.invariant some
