use Rattle.std.proofs.Common.{rules, option_to_list}
use Rattle.std.specs.List.{flat_map}
use Rattle.ror_text.proofs.Everywhere.{all-append, all-front, all-back}
use Rattle.ror_statement.specs.Statements.{comparison_of, class_comparisons}
use Rattle.ror_value.specs.Meaning.{Holds}
use Rattle.ror_value.proofs.value_function.ValueFunction.meets.Goals as goal

pub returns-then-meets_each : goal.returns-then-meets_each
returns-then-meets_each c =
    let list = c.args.list.now in
    let H = Holds c.args.table.now c.args.self.now.steps in
    let own = flat_map (λ s. option_to_list (comparison_of s)) list in
    (λ yes. all-append H own (class_comparisons list) (c.meets_each.ensures.0 (search rules)) (c.ranks_classes.ensures.0 yes), λ meets. c.ranks_classes.ensures.1 (all-back H own (class_comparisons list) meets))

pub returns-else-meets_each : goal.returns-else-meets_each
returns-else-meets_each c =
    let list = c.args.list.now in
    let H = Holds c.args.table.now c.args.self.now.steps in
    let own = flat_map (λ s. option_to_list (comparison_of s)) list in
    (λ yes. absurd (search rules), λ meets. c.meets_each.ensures.1 (all-front H own (class_comparisons list) meets))
