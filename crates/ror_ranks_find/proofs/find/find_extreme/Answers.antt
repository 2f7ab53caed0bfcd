use Rattle.std.proofs.Common.{rules, ◌≡◌, List, [], refl, subst, arith}
use Rattle.std.proofs.lemmas.Result.{IfOk-weaker}
use Rattle.ror_ranks.specs.declared.extreme.Conflict.{Conflict}
use Rattle.ror_ranks_find.specs.declared.growing.State.TheVariants as states
use Rattle.ror_ranks_find.specs.Search.{IsDone, IsSaidOf}
use Rattle.ror_ranks_find.proofs.ConcludeLemmas.{said_of}
use Rattle.ror_ranks_find.proofs.FindLemmas.{goal_within}
use Rattle.ror_ranks_find.proofs.GrowLemmas.{done_later}
use Rattle.ror_ranks_find.proofs.TreeSteps.{next_done}
use Rattle.ror_ranks_find.proofs.find.find_extreme.Goals as goal

pub overflow_add-done : goal.overflow_add-done
overflow_add-done c =
    let s = c.args.sought.now in
    let found = c.add_singles.new.found in
    let done = subst (λ (cs : List Conflict). IsDone cs c.in_ok-done.done) c.as_slice.ensures.value c.in_ok-done.ensures in
    let low = goal_within s found c.in_ok-done.done c.requires.sought.alternative c.in_ok-add_singles.ensures.found done.0 in
    search (rules, low)

pub levels-init : goal.levels-init
levels-init c =
    let found = c.add_singles.new.found in
    let done = subst (λ (cs : List Conflict). IsDone cs c.in_ok-done.done) c.as_slice.ensures.value c.in_ok-done.ensures in
    let first = c.add_singles.ensures.counted in
    let second = c.grow.ensures.counted in record {
      found = c.in_ok-next.ensures.found;
      done = done_later found c.grow.new.found c.in_ok-next.ensures.more c.in_ok-done.done done;
      next = c.in_ok-next.ensures.grown;
      one_more = c.in_ok-next.ensures.goal;
      counted = omega (arith, first, second);
    }

pub overflow_add-goal : goal.overflow_add-goal
overflow_add-goal c =
    let whole = c.levels-test.ensures.0 refl in
    let done = next_done c.levels.found c.levels.next c.levels.invariant.next whole.0 whole.1 in
    let low = goal_within c.args.sought.now c.levels.found c.levels.next c.requires.sought.alternative c.levels.invariant.found done.0 in
    search (rules, low)

pub levels-preserved : goal.levels-preserved
levels-preserved c =
    let whole = c.levels-test.ensures.0 refl in
    let done = next_done c.levels.found c.levels.next c.levels.invariant.next whole.0 whole.1 in
    let before = c.levels.invariant.counted in
    let after = c.grow-in-levels.ensures.counted in record {
      found = c.in_ok-next-2.ensures.found;
      done = done_later c.levels.found c.grow-in-levels.new.found c.in_ok-next-2.ensures.more c.levels.next done;
      next = c.in_ok-next-2.ensures.grown;
      one_more = c.in_ok-next-2.ensures.goal;
      counted = omega (arith, before, after);
    }

pub levels-smaller : goal.levels-smaller
levels-smaller c =
    let whole = c.levels-test.ensures.0 refl in
    let done = next_done c.levels.found c.levels.next c.levels.invariant.next whole.0 whole.1 in
    let low = goal_within c.args.sought.now c.levels.found c.levels.next c.requires.sought.alternative c.levels.invariant.found done.0 in
    let more = c.in_ok-next-2.ensures.goal in
    omega (arith, low, more)

pub returns-clause-said : goal.returns-clause-said
returns-clause-said c =
    let s = c.args.sought.now in
    let held = c.levels.invariant in
    let open_ : c.levels.next.state ≡ states.Growing → c.levels.next.sets.items ≡ [] → ⊥ = λ growing none. let no = c.levels-test.ensures.1 (growing, none) in search rules in
    IfOk-weaker c.conclude.result _ (IsSaidOf s) (λ x concluded. said_of s c.levels.found c.levels.done c.levels.next x held.found held.one_more held.next open_ concluded) c.conclude.ensures
