-- The line of one pair more.
use Rattle.std.proofs.Common.{◌≡◌, ◌++◌, get_or, rules}
use Rattle.ror_show_forms.specs.ChangeCsv.{csv_line}
use Rattle.ror_show_kit.proofs.Pieces.{element_more}
use Rattle.ror_show_forms.proofs.change_csv.write_lines.Goals as goal

pub pairs-preserved : goal.pairs-preserved
pairs-preserved c =
    let pushed : c.write_line.new.text.items ≡ c.pairs.text.items ++ csv_line c.args.table.now c.args.front.now c.args.change (get_or c.args.pairs.now c.pairs.pair-index (0, 0)) = search rules in
    element_more (csv_line c.args.table.now c.args.front.now c.args.change) c.args.pairs.now c.pairs.pair-index (0, 0) c.args.text.now.items c.pairs.text.items c.write_line.new.text.items c.pairs-test.true c.pairs.invariant pushed
