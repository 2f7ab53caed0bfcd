-- One section more.
use Rattle.ror_show_kit.proofs.Pieces.{number_more}
use Rattle.ror_show_ground.specs.Grounds.{ground_of}
use Rattle.ror_show_text_classes.specs.Pages.{classes_part}
use Rattle.ror_show_text_classes.proofs.page.write_classes.Goals as goal

pub loop-number-preserved : goal.loop-number-preserved
loop-number-preserved c = number_more (classes_part (ground_of c.args.ground.now) c.args.found.now) c.loop-number.number c.args.text.now.items c.loop-number.text.items c.write_part.new.text.items c.loop-number.invariant c.in_ok-write_part.ensures
