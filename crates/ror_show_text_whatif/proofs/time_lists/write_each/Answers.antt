-- One row more.
use Rattle.std.proofs.Common.{◌≡◌, ◌++◌, rules}
use Rattle.ror_show_kit.proofs.Pieces.{item_more}
use Rattle.ror_show_text_whatif.specs.TimeLists.{row_of}
use Rattle.ror_show_text_whatif.proofs.time_lists.write_each.Goals as goal

pub lines-preserved : goal.lines-preserved
lines-preserved c =
    let pushed : c.write_row.new.text.items ≡ c.lines.text.items ++ row_of c.args.table.now c.args.shift c.args.way c.args.k c.line-item.result = search rules in
    item_more (row_of c.args.table.now c.args.shift c.args.way c.args.k) c.args.lines.now c.lines.line-index c.line-item.result c.args.text.now.items c.lines.text.items c.write_row.new.text.items c.lines-test.true c.line-item.is c.lines.invariant pushed
