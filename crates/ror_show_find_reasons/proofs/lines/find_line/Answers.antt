use Rattle.std.proofs.Common.{get_or, refl}
use Rattle.ror_show_ground.specs.Ready.{IsReady}
use Rattle.ror_show_ground.proofs.Lists.{at_place}
use Rattle.ror_show_find_reasons.proofs.Steps.{held_at}
use Rattle.ror_show_find_reasons.proofs.lines.find_line.Goals as goal

pub line_drops-requires : goal.line_drops-requires
line_drops-requires c =
    let g = c.args.ground.now in
    held_at (IsReady g.table.now) g.kept.now c.args.place _ c.requires.there c.requires.judged.ready

pub line_told-requires : goal.line_told-requires
line_told-requires c =
    let g = c.args.ground.now in
    held_at (IsReady g.table.now) g.kept.now c.args.place _ c.requires.there c.requires.judged.ready

pub returns : goal.returns
returns c =
    let kept = c.args.ground.now.kept.now in
    let d = c.index-ground-place.result in
    (get_or kept c.args.place d, at_place kept c.args.place d c.requires.there, record { place = refl; said = c.in_ok-said.ensures; told = c.in_ok-told.ensures; drops = c.in_ok-drops.ensures })
