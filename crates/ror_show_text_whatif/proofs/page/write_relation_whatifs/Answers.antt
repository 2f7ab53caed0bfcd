-- One section more.
use Rattle.ror_show_kit.proofs.Pieces.{item_more}
use Rattle.ror_show_ground.specs.Grounds.{ground_of}
use Rattle.ror_show_text_whatif.specs.Pages.{section_text}
use Rattle.ror_show_text_whatif.proofs.page.write_relation_whatifs.Goals as goal

pub lines-preserved : goal.lines-preserved
lines-preserved c = item_more (section_text (ground_of c.args.ground.now)) c.args.found.now c.lines.whatif-index c.whatif-item.result c.args.text.now.items c.lines.text.items c.write_section.new.text.items c.lines-test.true c.whatif-item.is c.lines.invariant c.in_ok-write_section.ensures
