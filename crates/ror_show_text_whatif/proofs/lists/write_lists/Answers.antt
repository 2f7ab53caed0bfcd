-- One statement more.
use Rattle.ror_show_kit.proofs.Pieces.{item_more}
use Rattle.ror_show_text_whatif.specs.Lists.{case_lists}
use Rattle.ror_show_text_whatif.proofs.lists.write_lists.Goals as goal

pub cases-preserved : goal.cases-preserved
cases-preserved c = item_more (case_lists c.args.table.now) c.args.cases.now c.cases.case-index c.case-item.result c.args.text.now.items c.cases.text.items c.write_case.new.text.items c.cases-test.true c.case-item.is c.cases.invariant c.in_ok-write_case.ensures
