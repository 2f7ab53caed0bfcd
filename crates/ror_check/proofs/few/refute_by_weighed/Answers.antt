use Rattle.std.proofs.Common.{map, ◌≡◌, ◌++◌, take, drop, length, rules}
use Rattle.std.specs.Prelude.{IsOk}
use Rattle.ror_rows.specs.Rows.{comparison_of_extra}
use Rattle.ror_check.specs.Weighed.{StandsFor}
use Rattle.ror_check.proofs.FewRows.{refuted_by_few}
use Rattle.ror_check.proofs.few.refute_by_weighed.Goals as goal

pub new-few-requires-clause-weak_widths : goal.new-few-requires-clause-weak_widths
new-few-requires-clause-weak_widths c = rw c.columns.ensures.value (c.in_ok-few_weak.ensures.widths c.args.base.now.columns (rw c.weak.ensures.value c.columns.ensures.form.weak_widths))

pub new-few-requires-clause-strict_widths : goal.new-few-requires-clause-strict_widths
new-few-requires-clause-strict_widths c = rw c.columns.ensures.value (c.in_ok-few_strict.ensures.widths c.args.base.now.columns (rw c.strict.ensures.value c.columns.ensures.form.strict_widths))

pub returns : goal.returns
returns c accepted =
    let weak = c.args.multipliers.now.weak in
    let strict = c.args.multipliers.now.strict in
    let n = length c.args.base.now.weak in
    let k = length c.args.base.now.strict in
    let w : StandsFor c.in_ok-few_weak.few_weak.multipliers c.new-few.result.weak (take n weak) c.args.base.now.weak = search rules in
    let s : StandsFor c.in_ok-few_strict.few_strict.multipliers c.new-few.result.strict (take k strict) c.args.base.now.strict = search rules in
    let ok : IsOk c.accept_multipliers.result = search rules in
    let all = c.accept_multipliers.ensures.accepted.0 ok in
    let weak_is : c.push_rest.new.self ≡ c.in_ok-few_weak.few_weak.multipliers ++ drop n weak = rw c.weak-weak_count.ensures.value at c.in_ok-push_rest.ensures in
    let strict_is : c.push_rest-2.new.self ≡ c.in_ok-few_strict.few_strict.multipliers ++ drop k strict = rw c.strict-strict_count.ensures.value at c.in_ok-push_rest-2.ensures in
    refuted_by_few c.args.table.now c.args.base.now c.new-few.result c.in_ok-system.system (map comparison_of_extra c.args.extras.now) c.in_ok-few_weak.few_weak.multipliers weak c.in_ok-few_strict.few_strict.multipliers strict n k w s c.in_ok-system.ensures (rw (weak_is, strict_is) at all)
