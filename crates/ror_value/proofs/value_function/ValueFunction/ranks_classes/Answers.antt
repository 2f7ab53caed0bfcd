use Rattle.std.proofs.Common.{rules}
use Rattle.std.specs.List.{AllByRecursion, flat_map}
use Rattle.ror_text.proofs.Everywhere.{pieces-more, pieces-fail}
use Rattle.ror_statement.specs.Statements.{outranking, class_comparisons}
use Rattle.ror_value.specs.Meaning.{Holds}
use Rattle.ror_value.proofs.value_function.ValueFunction.ranks_classes.Goals as goal

pub returns-then-not-ranks_above : goal.returns-then-not-ranks_above
returns-then-not-ranks_above c =
    let list = c.args.list.now in
    let H = Holds c.args.table.now c.args.self.now.steps in
    (λ no. search rules, λ all. absurd (pieces-fail (AllByRecursion H (class_comparisons list)) H (λ r. flat_map (outranking r) list) list c.loop-first.first-index _ c.loop-first-test.true (λ here. let yes = c.ranks_above.ensures.1 here in search rules) c.loop-first.invariant all))

pub loop-first-preserved : goal.loop-first-preserved
loop-first-preserved c =
    let list = c.args.list.now in
    let H = Holds c.args.table.now c.args.self.now.steps in
    pieces-more (AllByRecursion H (class_comparisons list)) H (λ r. flat_map (outranking r) list) list c.loop-first.first-index _ c.loop-first-test.true (c.ranks_above.ensures.0 (search rules)) c.loop-first.invariant
