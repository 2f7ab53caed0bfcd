use Rattle.std.proofs.Common.{List, length, subst, ◌∙◌}
use Rattle.ror_show_find_relation.specs.declared.cell.Cell.{Cell}
use Rattle.ror_show_find_relation.specs.Cells.{cell_rows}
use Rattle.ror_show_find_whatif.specs.Shifts.{IsPairEffect}
use Rattle.ror_show_find_whatif.proofs.outcome.pairs_changed.Goals as goal

pub returns : goal.returns
returns c =
    let n = length c.args.table.now.alternatives in
    let before = c.as_slice.ensures ∙ c.in_ok-now.ensures in
    let after = c.as_slice-2.ensures ∙ c.in_ok-later.ensures in
    subst (λ (rows : List (List Cell)). IsPairEffect rows (cell_rows n c.args.after.now) c.in_ok-pairs.pairs) before
    (subst (λ (rows : List (List Cell)). IsPairEffect c.as_slice.result.now rows c.in_ok-pairs.pairs) after c.in_ok-pairs.ensures)
