use Rattle.std.proofs.Common.{[], ◌∷◌, option_to_list, ap, ◌∙◌, arith}
use Rattle.ror_integers.specs.Vectors.{ones}
use Rattle.std.specs.List.{flat_map}
use Rattle.ror_statement.specs.Statements.{comparison_of, class_comparisons}
use Rattle.ror_rows.proofs.Building.{parts_pushed, parts_weak_width, parts_strict_width, parts_number}
use Rattle.ror_rows.proofs.rows.system_of.Goals as goal

pub new-requires-2-clause-rows_limit : goal.new-requires-2-clause-rows_limit
new-requires-2-clause-rows_limit c =
    let parts = parts_pushed c.args.table.now (flat_map (λ s. option_to_list (comparison_of s)) c.args.list.now) (class_comparisons c.args.list.now) _ _ _ _ _ _ c.in_ok-rows.ensures.weak (c.in_ok-rows.ensures.strict ∙ ap (λ n. ones n ∷ []) c.columns.ensures.number) c.in_ok-push_statements.ensures.weak c.in_ok-push_statements.ensures.strict c.in_ok-push_classes.ensures.weak c.in_ok-push_classes.ensures.strict in
    let few = parts_number c.args.table.now c.args.list.now _ _ c.requires parts.0 parts.1 in
    omega (arith, few)

pub new-requires-2-clause-weak_widths : goal.new-requires-2-clause-weak_widths
new-requires-2-clause-weak_widths c =
    let parts = parts_pushed c.args.table.now (flat_map (λ s. option_to_list (comparison_of s)) c.args.list.now) (class_comparisons c.args.list.now) _ _ _ _ _ _ c.in_ok-rows.ensures.weak (c.in_ok-rows.ensures.strict ∙ ap (λ n. ones n ∷ []) c.columns.ensures.number) c.in_ok-push_statements.ensures.weak c.in_ok-push_statements.ensures.strict c.in_ok-push_classes.ensures.weak c.in_ok-push_classes.ensures.strict in
    parts_weak_width c.args.table.now c.args.list.now _ _ c.columns-2.ensures.number c.requires.each_valid parts.0

pub new-requires-2-clause-strict_widths : goal.new-requires-2-clause-strict_widths
new-requires-2-clause-strict_widths c =
    let parts = parts_pushed c.args.table.now (flat_map (λ s. option_to_list (comparison_of s)) c.args.list.now) (class_comparisons c.args.list.now) _ _ _ _ _ _ c.in_ok-rows.ensures.weak (c.in_ok-rows.ensures.strict ∙ ap (λ n. ones n ∷ []) c.columns.ensures.number) c.in_ok-push_statements.ensures.weak c.in_ok-push_statements.ensures.strict c.in_ok-push_classes.ensures.weak c.in_ok-push_classes.ensures.strict in
    parts_strict_width c.args.table.now c.args.list.now _ _ c.columns-2.ensures.number c.requires.each_valid parts.1

pub returns-clause-few : goal.returns-clause-few
returns-clause-few c =
    let parts = parts_pushed c.args.table.now (flat_map (λ s. option_to_list (comparison_of s)) c.args.list.now) (class_comparisons c.args.list.now) _ _ _ _ _ _ c.in_ok-rows.ensures.weak (c.in_ok-rows.ensures.strict ∙ ap (λ n. ones n ∷ []) c.columns.ensures.number) c.in_ok-push_statements.ensures.weak c.in_ok-push_statements.ensures.strict c.in_ok-push_classes.ensures.weak c.in_ok-push_classes.ensures.strict in
    let few = parts_number c.args.table.now c.args.list.now _ _ c.requires parts.0 parts.1 in
    rw c.new-2.ensures few
