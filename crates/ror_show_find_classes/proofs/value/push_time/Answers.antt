use Rattle.std.proofs.Common.{sym}
use Rattle.std.proofs.lemmas.Bool.{ltb-true}
use Rattle.std.proofs.lemmas.Result.{on_ok_weaker}
use Rattle.ror_check.proofs.Checking.{slice_get-at}
use Rattle.ror_show_find_classes.specs.Values.{time_of_line}
use Rattle.ror_show_find_classes.proofs.ValueLemmas.{none_there, one_there}
use Rattle.ror_show_find_classes.proofs.value.push_time.Goals as goal

pub returns-in_default : goal.returns-in_default
returns-in_default c = none_there (time_of_line c.args.ground.now.table.now c.args.ground.now.session.now c.args.ground.now.kept.now c.args.place) c.args.ground.now.kept.now c.args.place c.args.made.now.items c.in_default.ensures.lookup.0

pub returns : goal.returns
returns c =
    let kept = c.args.ground.now.kept.now in
    let place = c.args.place in
    on_ok_weaker c.push_time_of.result
    (λ is. one_there (time_of_line c.args.ground.now.table.now c.args.ground.now.session.now c.args.ground.now.kept.now c.args.place) kept place c.in-Some.line.now c.args.made.now.items c.push_time_of.new.made.items (slice_get-at kept place c.in-Some.line.now (ltb-true place _ (sym c.in-Some.ensures.lookup.0)) c.in-Some.ensures.lookup.1) is)
    c.push_time_of.ensures
