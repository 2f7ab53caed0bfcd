-- The values of one change more.
use Rattle.std.proofs.Common.{◌≡◌, ◌++◌, get_or, ap, ◌∙◌}
use Rattle.ror_show_ground.specs.Grounds.{ground_of}
use Rattle.ror_show_kit.proofs.Pieces.{element_more}
use Rattle.ror_show_find_reasons.specs.declared.pairs.ChangeFound.{ChangeFound}
use Rattle.ror_show_forms.specs.ChangeCsv.{change_values}
use Rattle.ror_show_forms.proofs.change_csv.write_changes_csv.Goals as goal

pub turns-preserved : goal.turns-preserved
turns-preserved c =
    let g = ground_of c.args.ground.now in
    let found = c.change-item.result in
    let pushed : c.write_change.new.text.items ≡ c.turns.text.items ++ change_values (ground_of c.args.ground.now) (get_or c.args.found.now c.turns.change-index c.change-item.result) =
    c.in_ok-write_change.ensures ∙ ap (λ (x : ChangeFound). c.turns.text.items ++ change_values (ground_of c.args.ground.now) x) c.change-item.is in
    element_more (change_values g) c.args.found.now c.turns.change-index found c.args.text.now.items c.turns.text.items c.write_change.new.text.items c.turns-test.true c.turns.invariant pushed
