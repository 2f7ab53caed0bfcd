-- One relation more.
use Rattle.ror_show_kit.proofs.Pieces.{item_more}
use Rattle.ror_show_ground.specs.Grounds.{ground_of}
use Rattle.ror_show_text_relation.specs.Pages.{section_text}
use Rattle.ror_show_text_relation.proofs.page.write_relations.Goals as goal

pub relations-preserved : goal.relations-preserved
relations-preserved c = item_more (section_text (ground_of c.args.ground.now)) c.args.found.now c.relations.relation-index c.relation-item.result c.args.text.now.items c.relations.text.items c.write_section.new.text.items c.relations-test.true c.relation-item.is c.relations.invariant c.in_ok-write_section.ensures
