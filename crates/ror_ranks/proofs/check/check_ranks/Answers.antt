use Rattle.std.proofs.Common.{rules, ◌≡◌, ◌<◌, ◌≤◌, length, arith, map, Err}
use Rattle.ror_check.proofs.Checking.{slice_get-at}
use Rattle.ror_text.proofs.Everywhere.{all_at}
use Rattle.ror_check.specs.Proof.{base_system}
use Rattle.ror_ranks.specs.Proof.{IsProvedExtreme, extreme_of}
use Rattle.ror_ranks.specs.Steps.{due_from}
use Rattle.ror_ranks.proofs.ConflictTruth.{due_within, proved_ranks_true}
use Rattle.ror_ranks.proofs.StepLemmas.{all_due, all_whole, due_few, said_refused, not_proved}
use Rattle.ror_ranks.proofs.check.check_ranks.Goals as goal

pub check_extreme-requires-clause-alternative : goal.check_extreme-requires-clause-alternative
check_extreme-requires-clause-alternative c =
    let t = c.args.table.now in
    let xs = c.args.extremes.now in
    let x = c.index-extremes-place.result in
    let first : map extreme_of xs ≡ due_from 0 c.alternatives.result = search rules in
    let due = all_due t c.args.list.now xs c.alternatives.result first c.alternatives.ensures.number in
    let there = slice_get-at xs c.loop-place.place x c.loop-place-test.true c.index-extremes-place.is in
    all_at (λ y. y.alternative < length t.alternatives) xs c.loop-place.place x (due_within t xs due) there

pub overflow_cast-place : goal.overflow_cast-place
overflow_cast-place c =
    let t = c.args.table.now in
    let xs = c.args.extremes.now in
    let first : map extreme_of xs ≡ due_from 0 c.alternatives.result = search rules in
    let few = due_few t c.args.list.now xs c.alternatives.ensures.table (all_due t c.args.list.now xs c.alternatives.result first c.alternatives.ensures.number) in
    let less = c.loop-place-test.true in
    omega (arith, few, less)

pub overflow_add-place : goal.overflow_add-place
overflow_add-place c =
    let t = c.args.table.now in
    let xs = c.args.extremes.now in
    let first : map extreme_of xs ≡ due_from 0 c.alternatives.result = search rules in
    let few = due_few t c.args.list.now xs c.alternatives.ensures.table (all_due t c.args.list.now xs c.alternatives.result first c.alternatives.ensures.number) in
    let less = c.loop-place-test.true in
    omega (arith, few, less)

pub returns-in-Err-clause-refused : goal.returns-in-Err-clause-refused
returns-in-Err-clause-refused c =
    let t = c.args.table.now in
    let xs = c.args.extremes.now in
    let x = c.index-extremes-place.result in
    let first : map extreme_of xs ≡ due_from 0 c.alternatives.result = search rules in
    let due = all_due t c.args.list.now xs c.alternatives.result first c.alternatives.ensures.number in
    let there = slice_get-at xs c.loop-place.place x c.loop-place-test.true c.index-extremes-place.is in
    rw c.refused_at.ensures (said_refused t c.args.list.now xs c.in_ok-base.base c.loop-place.place x c.in-Err.fault c.in_ok-base.ensures.system due there c.loop-place.invariant c.in-Err.ensures)

pub returns-in-Err-clause-not_proved : goal.returns-in-Err-clause-not_proved
returns-in-Err-clause-not_proved c = not_proved c.args.table.now c.args.list.now c.args.extremes.now {A = Unit {0}} (Err c.refused_at.result) (returns-in-Err-clause-refused c)

pub returns-clause-true_ranks : goal.returns-clause-true_ranks
returns-clause-true_ranks c =
    let t = c.args.table.now in
    let list = c.args.list.now in
    let xs = c.args.extremes.now in
    let first : map extreme_of xs ≡ due_from 0 c.alternatives.result = search rules in
    let due = all_due t list xs c.alternatives.result first c.alternatives.ensures.number in
    let past : length xs ≤ c.loop-place.place = search rules in
    proved_ranks_true t list xs c.requires.lawful (record { due = due; each = all_whole (IsProvedExtreme t (base_system t list)) xs c.loop-place.place past c.loop-place.invariant })
