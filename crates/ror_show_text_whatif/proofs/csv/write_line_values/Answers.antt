-- The values of one line more.
use Rattle.ror_show_kit.proofs.Pieces.{item_more}
use Rattle.ror_show_ground.specs.Grounds.{ground_of}
use Rattle.ror_show_text_whatif.specs.Csv.{whatif_values}
use Rattle.ror_show_text_whatif.proofs.csv.write_line_values.Goals as goal

pub lines-preserved : goal.lines-preserved
lines-preserved c = item_more (whatif_values (ground_of c.args.ground.now) c.args.asks) c.args.found.now c.lines.whatif-index c.whatif-item.result c.args.text.now.items c.lines.text.items c.write_whatif.new.text.items c.lines-test.true c.whatif-item.is c.lines.invariant c.in_ok-write_whatif.ensures
