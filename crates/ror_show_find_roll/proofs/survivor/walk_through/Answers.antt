-- One line more, and all of them.
use Rattle.std.proofs.Common.{◌≡◌, [], ◌++◌, refl, rules}
use Rattle.ror_show_find_roll.specs.Roll.{left_after, survivors_with, survivors, taken_by, taken_back, asked_by, asked_of_nothing}
use Rattle.ror_show_find_roll.proofs.Loops.{state_on, state_done, pieces_on, pieces_done}
use Rattle.ror_show_find_roll.proofs.survivor.walk_through.Goals as goal

pub steps-preserved : goal.steps-preserved
steps-preserved c =
    let opening = c.args.opening in
    let steps = c.args.steps.now in
    let i = c.steps.step-index in
    let x = c.step-item.result in
    let now = c.steps.survivors.items in
    let next = c.survive.new.survivors.items in
    let moved : c.survive.new.survivors.items ≡ survivors_with c.args.opening c.steps.survivors.items c.step-item.result = c.in_ok-survive.ensures in
    let asked : c.push_asked.new.asked_of_nothing.items ≡ c.steps.asked_of_nothing.items ++ asked_by (left_after c.args.opening c.steps.survivors.items) c.step-item.result.place c.step-item.result.body = search rules in
    let taken : c.push_taken.new.taken_back.items ≡ c.steps.taken_back.items ++ taken_by c.steps.survivors.items c.step-item.result.place c.step-item.result.body = search rules in
    record {
      surviving = state_on (survivors_with opening) now next (survivors opening steps) steps i x c.steps-test.true c.step-item.is moved c.steps.invariant.surviving;
      taken = pieces_on (survivors_with opening) (λ list turn. taken_by list turn.place turn.body) (taken_back opening) (λ s x xs. refl) now next c.steps.taken_back.items c.push_taken.new.taken_back.items (taken_back opening [] steps) steps i x c.steps-test.true c.step-item.is moved taken c.steps.invariant.taken;
      asked = pieces_on (survivors_with opening) (λ list turn. asked_by (left_after opening list) turn.place turn.body) (asked_of_nothing opening) (λ s x xs. refl) now next c.steps.asked_of_nothing.items c.push_asked.new.asked_of_nothing.items (asked_of_nothing opening [] steps) steps i x c.steps-test.true c.step-item.is moved asked c.steps.invariant.asked;
    }

pub returns : goal.returns
returns c =
    let opening = c.args.opening in
    let steps = c.args.steps.now in
    let i = c.steps.step-index in
    record {
      survivors = state_done (survivors_with opening) c.steps.survivors.items (survivors opening steps) steps i c.steps-test.false c.steps.invariant.surviving;
      taken_back = pieces_done (taken_back opening) (λ s. refl) c.steps.survivors.items c.steps.taken_back.items (taken_back opening [] steps) steps i c.steps-test.false c.steps.invariant.taken;
      asked = pieces_done (asked_of_nothing opening) (λ s. refl) c.steps.survivors.items c.steps.asked_of_nothing.items (asked_of_nothing opening [] steps) steps i c.steps-test.false c.steps.invariant.asked;
    }
