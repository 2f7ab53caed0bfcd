-- One row more.
use Rattle.std.proofs.Common.{false, ◌++◌, ◌∙◌, List, get_or, ap, sym}
use Rattle.ror_show_kit.proofs.Pieces.{of_elements}
use Rattle.ror_show_find_classes.specs.declared.value.ClassRow.{ClassRow}
use Rattle.ror_show_find_classes.specs.declared.changes.RowChange.{RowChange}
use Rattle.ror_show_find_classes.specs.ClassChanges.{row_change}
use Rattle.ror_show_find_classes.proofs.changes.row_changes.Goals as goal

abbrev no_row : ClassRow
no_row = record { alternative = 0; lowest = 0; highest = 0; settled = false; whole = false; contradictory = false }

pub rows-preserved : goal.rows-preserved
rows-preserved c =
    let f = row_change c.args.before.now in
    let rows = c.args.now.now in
    let i = c.rows.row-index in
    c.in_ok-push_change.ensures ∙ ap (λ (xs : List RowChange). xs ++ f (get_or rows i no_row)) c.rows.invariant ∙ sym (of_elements f rows i no_row c.rows-test.true)
