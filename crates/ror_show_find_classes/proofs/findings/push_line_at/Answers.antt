use Rattle.std.proofs.Common.{sym}
use Rattle.std.proofs.lemmas.Bool.{ltb-true}
use Rattle.std.proofs.lemmas.Result.{on_ok_weaker}
use Rattle.ror_check.proofs.Checking.{slice_get-at}
use Rattle.ror_show_find_classes.proofs.ValueLemmas.{none_there, one_there}
use Rattle.ror_show_ground.specs.Grounds.{ground_of}
use Rattle.ror_show_find_classes.specs.Findings.{one_line}
use Rattle.ror_show_find_classes.proofs.findings.push_line_at.Goals as goal

pub returns-in_default : goal.returns-in_default
returns-in_default c = none_there (one_line (ground_of c.args.ground.now) c.args.place) c.args.ground.now.kept.now c.args.place c.args.made.now.items c.in_default.ensures.lookup.0

pub returns : goal.returns
returns c =
    let g = ground_of c.args.ground.now in
    let n = c.args.place in
    let line = c.in-Some.line.now in
    on_ok_weaker c.push_line.result
    (λ is. one_there (one_line g n) g.kept n line c.args.made.now.items c.push_line.new.found.items (slice_get-at g.kept n line (ltb-true n _ (sym c.in-Some.ensures.lookup.0)) c.in-Some.ensures.lookup.1) is)
    c.push_line.ensures
