-- One statement more.
use Rattle.ror_show_ground.specs.Grounds.{ground_of}
use Rattle.ror_show_ground.proofs.Lists.{holds_at}
use Rattle.ror_show_find_reasons.specs.declared.lines.DropFound.{DropFound}
use Rattle.ror_show_find_reasons.specs.Lines.{AsksIn}
use Rattle.ror_show_text_reasons.specs.Pages.{drop_in}
use Rattle.ror_show_text_reasons.specs.Scenes.{scene_of}
use Rattle.ror_show_kit.proofs.Pieces.{item_more}
use Rattle.ror_show_text_reasons.proofs.lines.write_each_drop.Goals as goal

pub write_drop-requires-clause-asked : goal.write_drop-requires-clause-asked
write_drop-requires-clause-asked c = holds_at (λ (x : DropFound). AsksIn c.args.scene.now.table.now x.conflict) c.args.drops.now c.drops.k c.index-drops-k.result c.drops-test.true c.index-drops-k.is c.requires.asked

pub drops-preserved : goal.drops-preserved
drops-preserved c = item_more (drop_in (ground_of c.args.ground.now) c.args.line.now (scene_of c.args.scene.now)) c.args.drops.now c.drops.k c.index-drops-k.result c.args.text.now.items c.drops.text.items c.write_drop.new.text.items c.drops-test.true c.index-drops-k.is c.drops.invariant c.in_ok-write_drop.ensures
