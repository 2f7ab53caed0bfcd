-- One arrow more.
use Rattle.std.proofs.Common.{◌≡◌, ◌++◌, get_or, rules}
use Rattle.ror_show_forms.specs.Dot.{arrow}
use Rattle.ror_show_kit.proofs.Pieces.{element_more}
use Rattle.ror_show_forms.proofs.dot.write_arrows.Goals as goal

pub arrows-preserved : goal.arrows-preserved
arrows-preserved c =
    let pushed : c.write_arrow.new.text.items ≡ c.arrows.text.items ++ arrow c.args.table.now (get_or c.args.arrows.now c.arrows.arrow-index (0, 0)) = search rules in
    element_more (arrow c.args.table.now) c.args.arrows.now c.arrows.arrow-index (0, 0) c.args.text.now.items c.arrows.text.items c.write_arrow.new.text.items c.arrows-test.true c.arrows.invariant pushed
