use Rattle.std.proofs.Common.{rules, arith}
use Rattle.serde_json.specs.View.{view}
use Rattle.ror_json.proofs.JsonTexts.{value_ok, fault_is_near, shape_given}
use Rattle.ror_json.proofs.text.from_text.Goals as goal

pub overflow_cast-result : goal.overflow_cast-result
overflow_cast-result c =
    let value = view c.in_ok-value.value in
    let json = value_ok c.args.bytes.now value c.in_ok-value.ensures in
    let near = fault_is_near c.args.table.now c.args.bytes.now value c.in-Err-BadShape.block c.alternatives.ensures.table json.value (shape_given c.in-Err-BadShape.field-0 c.in-Err-BadShape.block _ (search rules) c.in-Err-BadShape.ensures.exact) in
    let short = c.requires in
    omega (arith, near, short)
