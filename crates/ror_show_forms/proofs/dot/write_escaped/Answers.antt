-- One byte more.
use Rattle.std.proofs.Common.{◌≡◌, ◌++◌, get_or, rules}
use Rattle.ror_show_forms.specs.Dot.{escaped}
use Rattle.ror_show_kit.proofs.Pieces.{element_more}
use Rattle.ror_show_forms.proofs.dot.write_escaped.Goals as goal

pub bytes-preserved : goal.bytes-preserved
bytes-preserved c =
    let pushed : c.write_byte.new.text.items ≡ c.bytes.text.items ++ escaped (get_or c.args.name.now c.bytes.byte-index 0) = search rules in
    element_more (escaped) c.args.name.now c.bytes.byte-index 0 c.args.text.now.items c.bytes.text.items c.write_byte.new.text.items c.bytes-test.true c.bytes.invariant pushed
