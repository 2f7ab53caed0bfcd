use Rattle.std.proofs.Common.{get_or}
use Rattle.std.proofs.lemmas.Result.{IfOk-weaker}
use Rattle.ror_show_ground.specs.Ready.{IsReady}
use Rattle.ror_show_ground.proofs.Lists.{at_place}
use Rattle.ror_show_find_reasons.proofs.Steps.{held_at}
use Rattle.ror_show_find_reasons.proofs.classes.bounds_at.Goals as goal

pub find_bounds-requires : goal.find_bounds-requires
find_bounds-requires c =
    let g = c.args.ground.now in
    held_at (IsReady g.table.now) g.kept.now c.args.place _ c.requires.there c.requires.judged.ready

pub returns : goal.returns
returns c =
    let kept = c.args.ground.now.kept.now in
    let d = c.index-ground-place.result in
    IfOk-weaker c.find_bounds.result _ _
    (λ found are. (get_or kept c.args.place d, at_place kept c.args.place d c.requires.there, are))
    c.find_bounds.ensures
