use Rattle.ror_rows.specs.Steps.{entry_at}
use Rattle.std.proofs.Common.{FitsSigned, rules, ◌∙◌}
use Rattle.std.specs.Int.{w128}
use Rattle.std.proofs.lemmas.Int.{to_z-of_z}
use Rattle.ror_rows.proofs.FormLemmas.{columns_more}
use Rattle.ror_rows.proofs.differences.push_criterion.Goals as goal

pub loop-column-preserved : goal.loop-column-preserved
loop-column-preserved c =
    let fits : FitsSigned w128 c.entry_of.result = search rules in
    columns_more (entry_at c.args.table.now c.args.i c.args.ranks) c.loop-column.column c.args.row.now.items c.loop-column.row.items c.push.new.self.items _ c.loop-column.invariant c.in_ok-push.ensures.items (to_z-of_z w128 _ fits ∙ c.entry_of.ensures.value)
