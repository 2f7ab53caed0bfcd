use Rattle.std.proofs.Common.{◌≡◌, ◌≤◌, ◌∙◌, List, length, map, ap, arith, rules}
use Rattle.std.proofs.lemmas.List.{length-map}
use Rattle.std.proofs.lemmas.List.FromFn.{length-map-range_with_len}
use Rattle.ror_show_find_relation.specs.declared.cell.Cell.{Cell}
use Rattle.ror_show_find_group.specs.declared.cell.GroupCell.{GroupCell}
use Rattle.ror_show_find_group.specs.declared.judge.JudgeFound.{JudgeFound}
use Rattle.ror_show_find_group.specs.Grounds.{group_ground_of}
use Rattle.ror_show_find_group.specs.Judges.{judge_at, judges_of}
use Rattle.ror_show_find_group.specs.Cells.{group_row, group_rows}
use Rattle.ror_show_find_group.specs.Findings.{common_cell, common_rows}
use Rattle.ror_show_find_group.proofs.page.find_group.Goals as goal

pub page_of_cells-requires : goal.page_of_cells-requires
page_of_cells-requires c =
    let js = c.in_ok-judges.judges.items in
    let n = length c.args.ground.now.table.now.alternatives in
    let few : length c.args.ground.now.table.now.alternatives ≤ 200 = search rules in
    let rows : c.in_ok-rows.rows.items ≡ group_rows c.in_ok-judges.judges.items (length c.args.ground.now.table.now.alternatives) = search rules in
    let common : c.in_ok-common.common.items ≡ common_rows c.in_ok-rows.rows.items = search rules in
    let size : length c.in_ok-common.common.items ≡ n =
    ap (λ (cells : List (List Cell)). length cells) common
    ∙ length-map c.in_ok-rows.rows.items (map common_cell)
    ∙ ap (λ (cells : List (List GroupCell)). length cells) rows
    ∙ length-map-range_with_len (group_row js n) 0 n in
    omega arith

pub returns-clause-judges : goal.returns-clause-judges
returns-clause-judges c =
    let g = group_ground_of c.args.ground.now in
    let same : c.in_ok-judges.judges.items ≡ judges_of (group_ground_of c.args.ground.now) = search rules in
    ap (λ (js : List JudgeFound). length js) (c.from-4.ensures ∙ same) ∙ length-map-range_with_len (judge_at g) 0 (length g.lists)
