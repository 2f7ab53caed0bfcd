-- One pair more.
use Rattle.ror_show_kit.proofs.Pieces.{item_more}
use Rattle.ror_show_text_relation.specs.Pages.{pair_line}
use Rattle.ror_show_text_relation.proofs.page.write_each_pair.Goals as goal

pub pairs-preserved : goal.pairs-preserved
pairs-preserved c = item_more (pair_line c.args.table.now) c.args.found.now c.pairs.pair-index c.pair-item.result c.args.text.now.items c.pairs.text.items c.write_pair.new.text.items c.pairs-test.true c.pair-item.is c.pairs.invariant c.in_ok-write_pair.ensures
