use Rattle.std.proofs.Common.{map}
use Rattle.ror_rows.specs.Rows.{comparison_of_extra}
use Rattle.ror_rows.proofs.Building.{extras_named}
use Rattle.ror_rows.proofs.Extending.{copied_first, extended_number, extended_weak_width, extended_strict_width, extended_total}
use Rattle.ror_rows.proofs.rows.with_extras.Goals as goal

pub new-requires-clause-rows_limit : goal.new-requires-clause-rows_limit
new-requires-clause-rows_limit c =
    let weak = copied_first _ _ _ _ _ c.in_ok-with_capacity.ensures.items c.in_ok-push_system.ensures.weak c.in_ok-push_extras.ensures.weak in
    let strict = copied_first _ _ _ _ _ c.in_ok-with_capacity-2.ensures.items c.in_ok-push_system.ensures.strict c.in_ok-push_extras.ensures.strict in
    extended_number c.args.table.now c.args.base.now c.args.extra.now _ _ c.requires.rows c.requires.few weak strict

pub new-requires-clause-weak_widths : goal.new-requires-clause-weak_widths
new-requires-clause-weak_widths c =
    let weak = copied_first _ _ _ _ _ c.in_ok-with_capacity.ensures.items c.in_ok-push_system.ensures.weak c.in_ok-push_extras.ensures.weak in
    rw c.columns.ensures.value (extended_weak_width c.args.table.now c.args.base.now.columns (map comparison_of_extra c.args.extra.now) c.args.base.now.weak _ c.requires.columns (extras_named c.args.table.now c.args.extra.now c.requires.named) c.columns.ensures.form.weak_widths weak)

pub new-requires-clause-strict_widths : goal.new-requires-clause-strict_widths
new-requires-clause-strict_widths c =
    let strict = copied_first _ _ _ _ _ c.in_ok-with_capacity-2.ensures.items c.in_ok-push_system.ensures.strict c.in_ok-push_extras.ensures.strict in
    rw c.columns.ensures.value (extended_strict_width c.args.table.now c.args.base.now.columns (map comparison_of_extra c.args.extra.now) c.args.base.now.strict _ c.requires.columns (extras_named c.args.table.now c.args.extra.now c.requires.named) c.columns.ensures.form.strict_widths strict)

pub new-requires-clause-total_row : goal.new-requires-clause-total_row
new-requires-clause-total_row c =
    let strict = copied_first _ _ _ _ _ c.in_ok-with_capacity-2.ensures.items c.in_ok-push_system.ensures.strict c.in_ok-push_extras.ensures.strict in
    rw c.columns.ensures.value (extended_total _ c.args.base.now.strict _ _ c.columns.ensures.form.total_row strict)
