-- The values of one statement more.
use Rattle.ror_show_kit.proofs.Pieces.{item_more}
use Rattle.ror_show_text_whatif.specs.Csv.{case_values}
use Rattle.ror_show_text_whatif.proofs.csv.write_cases.Goals as goal

pub cases-preserved : goal.cases-preserved
cases-preserved c = item_more (case_values c.args.front.now c.args.asks) c.args.cases.now c.cases.case-index c.case-item.result c.args.text.now.items c.cases.text.items c.write_case.new.text.items c.cases-test.true c.case-item.is c.cases.invariant c.in_ok-write_case.ensures
