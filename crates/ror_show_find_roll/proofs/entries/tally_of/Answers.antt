-- One revision more, and all of them.
use Rattle.std.proofs.Common.{◌≡◌, ap, rules}
use Rattle.ror_show_find_roll.specs.Roll.{Tally, tally_with, tally_of}
use Rattle.ror_show_find_roll.proofs.Loops.{state_on, state_done}
use Rattle.ror_show_find_roll.proofs.entries.tally_of.Goals as goal

pub survivors-preserved : goal.survivors-preserved
survivors-preserved c =
    let now : Tally = record { entries = c.survivors.entries.items; gone = c.survivors.gone.items } in
    let next : Tally = record { entries = c.in_ok-next.next.items; gone = c.push_gone.new.gone.items } in
    let moved : next ≡ tally_with now c.survivor-item.result = search rules in
    state_on tally_with now next (tally_of c.args.opening c.args.survivors.now) c.args.survivors.now c.survivors.survivor-index c.survivor-item.result c.survivors-test.true c.survivor-item.is moved c.survivors.invariant

pub returns : goal.returns
returns c =
    let now : Tally = record { entries = c.survivors.entries.items; gone = c.survivors.gone.items } in
    let done : now ≡ tally_of c.args.opening c.args.survivors.now = state_done tally_with now (tally_of c.args.opening c.args.survivors.now) c.args.survivors.now c.survivors.survivor-index c.survivors-test.false c.survivors.invariant in
    record { entries = ap (λ (t : Tally). t.entries) done; gone = ap (λ (t : Tally). t.gone) done }
