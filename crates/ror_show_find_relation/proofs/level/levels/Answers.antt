-- The loop ends where a pass places nothing, and else goes on.
use Rattle.std.proofs.Common.{◌≡◌, ◌≢◌, ◌+◌, ◌<◌, length, rules}
use Rattle.ror_show_find_relation.specs.Passes.{next_levels}
use Rattle.ror_show_find_relation.proofs.Passing.{left, Goes, loop_stops, loop_goes}
use Rattle.ror_show_find_relation.proofs.level.levels.Goals as goal

pub returns-then-count_left : goal.returns-then-count_left
returns-then-count_left c =
    let is : c.in_ok-next.next.items ≡ next_levels c.args.relation.now c.loop-before.found.items (c.loop-before.before + 1) = search rules in
    let as_many : left c.in_ok-next.next.items ≡ left c.loop-before.found.items = search rules in
    loop_stops c.args.relation.now c.loop-before.found.items c.in_ok-next.next.items c.loop-before.before c.loop-before.invariant.found is as_many

pub loop-before-preserved : goal.loop-before-preserved
loop-before-preserved c =
    let is : c.in_ok-next.next.items ≡ next_levels c.args.relation.now c.loop-before.found.items (c.loop-before.before + 1) = search rules in
    let other : left c.in_ok-next.next.items ≢ left c.loop-before.found.items = search rules in
    let more : c.loop-before.before < length c.args.relation.now = search rules in
    let goes : Goes c.args.relation.now c.in_ok-next.next.items c.loop-before.before = loop_goes c.args.relation.now c.loop-before.found.items c.in_ok-next.next.items c.loop-before.before c.loop-before.invariant.found c.loop-before.invariant.room more is other in
    record { found = goes.found; room = goes.room }
