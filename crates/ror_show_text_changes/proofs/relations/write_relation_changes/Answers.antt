-- One change more.
use Rattle.ror_show_kit.proofs.Pieces.{number_more}
use Rattle.ror_show_ground.specs.Grounds.{ground_of}
use Rattle.ror_show_text_changes.specs.Pages.{relation_part}
use Rattle.ror_show_text_changes.proofs.relations.write_relation_changes.Goals as goal

pub loop-number-preserved : goal.loop-number-preserved
loop-number-preserved c = number_more (relation_part (ground_of c.args.ground.now) c.args.found.now) c.loop-number.number c.args.text.now.items c.loop-number.text.items c.write_part.new.text.items c.loop-number.invariant c.in_ok-write_part.ensures
