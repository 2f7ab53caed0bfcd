-- One pair more.
use Rattle.std.proofs.Common.{◌≡◌, ◌++◌, get_or, rules}
use Rattle.ror_show_kit.proofs.Pieces.{element_more}
use Rattle.ror_show_text_group.specs.Apart.{row_text}
use Rattle.ror_show_text_group.proofs.apart.write_rows.Goals as goal

pub pairs-preserved : goal.pairs-preserved
pairs-preserved c =
    let pushed : c.write_row.new.text.items ≡ c.pairs.text.items ++ row_text c.args.table.now c.args.judges.now c.args.part (get_or c.args.pairs.now c.pairs.pair-index (0, 0)) = search rules in
    element_more (row_text c.args.table.now c.args.judges.now c.args.part) c.args.pairs.now c.pairs.pair-index (0, 0) c.args.text.now.items c.pairs.text.items c.write_row.new.text.items c.pairs-test.true c.pairs.invariant pushed
