use Rattle.std.proofs.Common.{ℕ, Some, ap, sym, ◌∙◌}
use Rattle.std.proofs.lemmas.Result.{IfOk-weaker}
use Rattle.ror_bench.specs.declared.kept.KeptLine.{KeptLine}
use Rattle.ror_show_ground.specs.Grounds.{ground_of}
use Rattle.ror_show_ground.specs.Lines.{desk_of}
use Rattle.ror_show_ground.proofs.Lists.{at_place}
use Rattle.ror_show_find_classes.specs.Findings.{time_from}
use Rattle.ror_show_find_classes.proofs.findings.find_time.Goals as goal

pub returns : goal.returns
returns c =
    let g = ground_of c.args.ground.now in
    let place = c.args.place in
    let line = c.index-ground-place.result in
    let is = c.index-ground-place.is in
    IfOk-weaker c.time_from.result _ _
    (λ time h. (line, at_place g.kept place line c.requires ∙ ap Some (sym is), h ∙ ap (λ (desk : ℕ). time_from g place desk) c.desk_of.ensures ∙ ap (λ (x : KeptLine). time_from g place (desk_of g.session x)) (sym is)))
    c.time_from.ensures
