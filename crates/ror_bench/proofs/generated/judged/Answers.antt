use Rattle.std.proofs.Common.{rules, ◌≡◌, true, false, w64, FitsSigned, slice_get, Some}
use Rattle.ror_table.specs.Table.{alternative_ids}
use Rattle.ror_bench.proofs.GeneratedSession.{judged_is}
use Rattle.ror_bench.proofs.generated.judged.Goals as goal

pub returns-then-other-one : goal.returns-then-other-one
returns-then-other-one c =
    let one : FitsSigned w64 c.hidden_value-one.result = search rules in
    let other : FitsSigned w64 c.hidden_value-other.result = search rules in
    let first : slice_get (alternative_ids c.args.table.now) c.args.a ≡ Some c.in_ok-first.first = search rules in
    let second : slice_get (alternative_ids c.args.table.now) c.args.b ≡ Some c.in_ok-second.second = search rules in
    judged_is c.args.table.now c.args.a c.args.b false true c.hidden_value-one.result c.hidden_value-other.result c.in_ok-first.first c.in_ok-second.second one other c.hidden_value-one.ensures c.hidden_value-other.ensures first second c.if-one-other.false c.if-other-one.true

pub returns-else-other-one : goal.returns-else-other-one
returns-else-other-one c =
    let one : FitsSigned w64 c.hidden_value-one.result = search rules in
    let other : FitsSigned w64 c.hidden_value-other.result = search rules in
    let first : slice_get (alternative_ids c.args.table.now) c.args.a ≡ Some c.in_ok-first.first = search rules in
    let second : slice_get (alternative_ids c.args.table.now) c.args.b ≡ Some c.in_ok-second.second = search rules in
    judged_is c.args.table.now c.args.a c.args.b false false c.hidden_value-one.result c.hidden_value-other.result c.in_ok-first.first c.in_ok-second.second one other c.hidden_value-one.ensures c.hidden_value-other.ensures first second c.if-one-other.false c.if-other-one.false
