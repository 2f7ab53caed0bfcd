use Rattle.std.proofs.Common.{◌≡◌, [], length, sym, ap, ◌∙◌}
use Rattle.ror_table.specs.Table.{DecisionTable}
use Rattle.ror_xmcda.specs.Whole.{criteria_table}
use Rattle.ror_xmcda.proofs.WholeLemmas.{length-criteria_table, alternatives-criteria_table}
use Rattle.ror_xmcda.proofs.whole.table_of.Goals as goal

pub with_alternatives-requires-clause-width : goal.with_alternatives-requires-clause-width
with_alternatives-requires-clause-width c =
    let made : c.in_ok-draft.draft ≡ criteria_table c.args.criteria.now = c.in_ok-draft.ensures in
    let same : length c.classes.new.self.criteria ≡ length c.in_ok-draft.draft.criteria = ap (λ (t : DecisionTable). length t.criteria) c.classes.ensures in
    c.len-count.ensures ∙ sym (same ∙ ap (λ (t : DecisionTable). length t.criteria) made ∙ length-criteria_table c.args.criteria.now)

pub with_alternatives-requires-clause-ids : goal.with_alternatives-requires-clause-ids
with_alternatives-requires-clause-ids c =
    let made : c.in_ok-draft.draft ≡ criteria_table c.args.criteria.now = c.in_ok-draft.ensures in
    let none : c.classes.new.self.alternatives ≡ [] = ap (λ (t : DecisionTable). t.alternatives) c.classes.ensures ∙ ap (λ (t : DecisionTable). t.alternatives) made ∙ alternatives-criteria_table c.args.criteria.now in
    rw (none, c.as_slice.ensures) c.requires.alternatives
