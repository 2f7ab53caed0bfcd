use Rattle.std.proofs.Common.{List, [], ap, ◌∙◌}
use Rattle.std.specs.Prelude.{slice_index_or}
use Rattle.ror_session.specs.declared.session.Line.{Line}
use Rattle.ror_show_ground.specs.Grounds.{ground_of}
use Rattle.ror_show_text_roll.specs.Pages.{line_of, roll_words}
use Rattle.ror_show_text_roll.proofs.RollWords.{roll_done}
use Rattle.ror_show_text_roll.proofs.rolls.write_found.Goals as goal

pub returns : goal.returns
unfolding roll_words
returns c =
    let g = ground_of c.args.ground.now in
    let found = c.args.found.now in
    let meant = c.line_of.ensures ∙ ap (λ (lines : List Line). line_of c.args.line lines) c.as_slice.ensures in
    roll_done g c.desk_name-desk.result.now (slice_index_or g.session.desks found.desk []) c.line_of.result (line_of c.args.line g.session.lines) found.roll c.args.text.now.items c.write_roll.new.text.items c.push.new.self.items c.desk_name-desk.ensures meant c.in_ok-write_roll.ensures c.in_ok-push.ensures.items
