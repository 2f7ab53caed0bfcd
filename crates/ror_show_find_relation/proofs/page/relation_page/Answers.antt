-- There are as many rows as alternatives, which are at most 200.
use Rattle.std.proofs.Common.{◌≡◌, ◌≤◌, List, length, rules, ap, arith}
use Rattle.std.proofs.lemmas.List.FromFn.{length-map-range_with_len}
use Rattle.ror_show_find_relation.specs.declared.cell.Cell.{Cell}
use Rattle.ror_show_find_relation.specs.Cells.{cells_from, cell_rows}
use Rattle.ror_show_find_relation.proofs.page.relation_page.Goals as goal

pub page_of_cells-requires : goal.page_of_cells-requires
page_of_cells-requires c =
    let few : length c.args.table.now.alternatives ≤ 200 = search rules in
    let rows : c.in_ok-rows.rows.items ≡ cell_rows (length c.args.table.now.alternatives) c.args.answers.now = search rules in
    let many = length-map-range_with_len (cells_from (length c.args.table.now.alternatives) c.args.answers.now) 0 (length c.args.table.now.alternatives) in
    let same = ap (λ (r : List (List Cell)). length r) rows in
    omega arith
