use Rattle.std.proofs.Common.{ℕ, sym}
use Rattle.std.proofs.lemmas.Bool.{ltb-true}
use Rattle.std.proofs.lemmas.Result.{on_ok_weaker}
use Rattle.ror_check.proofs.Checking.{slice_get-at}
use Rattle.ror_show_find_classes.specs.declared.value.ClassTime.{ClassTime}
use Rattle.ror_show_find_classes.proofs.ValueLemmas.{none_there, one_there}
use Rattle.ror_show_find_classes.specs.TimeTurns.{turn_at}
use Rattle.ror_show_find_classes.proofs.turns.push_turn_of.Goals as goal

pub returns-in_default : goal.returns-in_default
returns-in_default c = none_there {X = ClassTime} {Y = ℕ × ℕ} (λ x. turn_at c.args.times.now c.args.place x.desk) c.args.times.now c.args.place c.args.made.now.items c.in_default.ensures.lookup.0

pub returns : goal.returns
returns c =
    let times = c.args.times.now in
    let place = c.args.place in
    on_ok_weaker c.push_turn_at.result
    (λ is. one_there {X = ClassTime} {Y = ℕ × ℕ} (λ x. turn_at times place x.desk) times place c.in-Some.time.now c.args.made.now.items c.push_turn_at.new.made.items (slice_get-at times place c.in-Some.time.now (ltb-true place _ (sym c.in-Some.ensures.lookup.0)) c.in-Some.ensures.lookup.1) is)
    c.push_turn_at.ensures
