-- There are as many rows as alternatives, which are at most 200.
use Rattle.std.proofs.Common.{◌≡◌, ◌≤◌, length, rules, ap, arith}
use Rattle.std.proofs.lemmas.List.FromFn.{length-map-range_with_len}
use Rattle.ror_show_find_relation.specs.Cells.{is_over, is_open}
use Rattle.ror_show_find_relation.specs.Dominance.{dominance, dominated_by}
use Rattle.ror_show_find_relation.specs.Pages.{marks}
use Rattle.ror_show_find_relation.specs.Relations.{Square}
use Rattle.ror_show_find_relation.proofs.Known.{marks-few}
use Rattle.ror_show_find_relation.proofs.page.page_of_cells.Goals as goal

pub decided_pairs-requires : goal.decided_pairs-requires
decided_pairs-requires c =
    let over : c.in_ok-over.over ≡ marks is_over c.args.rows.items = search rules in
    marks-few is_over c.args.rows.items c.in_ok-over.over c.requires over

pub decided_pairs-requires-2 : goal.decided_pairs-requires-2
decided_pairs-requires-2 c =
    let over : c.in_ok-open.open ≡ marks is_open c.args.rows.items = search rules in
    marks-few is_open c.args.rows.items c.in_ok-open.open c.requires over

pub decided_pairs-requires-3 : goal.decided_pairs-requires-3
decided_pairs-requires-3 c =
    let few : length c.args.table.now.alternatives ≤ 200 = search rules in
    let made : c.in_ok-dominance.dominance ≡ dominance c.args.table.now = search rules in
    let many : length (dominance c.args.table.now) ≡ length c.args.table.now.alternatives = length-map-range_with_len (dominated_by c.args.table.now) 0 (length c.args.table.now.alternatives) in
    let same : length c.in_ok-dominance.dominance ≡ length (dominance c.args.table.now) = ap (λ (r : Square). length r) made in
    omega arith
