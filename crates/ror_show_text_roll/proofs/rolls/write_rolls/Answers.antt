-- The roll of one desk more.
use Rattle.std.proofs.Common.{◌≡◌, ◌++◌, get_or, ap, ◌∙◌}
use Rattle.ror_show_ground.specs.Grounds.{ground_of}
use Rattle.ror_show_kit.proofs.Pieces.{element_more}
use Rattle.ror_show_find_roll.specs.declared.findings.RollFound.{RollFound}
use Rattle.ror_show_text_roll.specs.Pages.{roll_words}
use Rattle.ror_show_text_roll.proofs.rolls.write_rolls.Goals as goal

pub desks-preserved : goal.desks-preserved
desks-preserved c =
    let g = ground_of c.args.ground.now in
    let roll = c.roll-item.result in
    let pushed : c.write_found.new.text.items ≡ c.desks.text.items ++ roll_words (ground_of c.args.ground.now) c.args.line (get_or c.args.found.now c.desks.roll-index c.roll-item.result) =
    c.in_ok-write_found.ensures ∙ ap (λ (x : RollFound). c.desks.text.items ++ roll_words (ground_of c.args.ground.now) c.args.line x) c.roll-item.is in
    element_more (roll_words g c.args.line) c.args.found.now c.desks.roll-index roll c.args.text.now.items c.desks.text.items c.write_found.new.text.items c.desks-test.true c.desks.invariant pushed
