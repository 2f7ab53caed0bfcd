use Rattle.std.proofs.Common.{◌≡◌, IfOk, List, ℤ, length, sym, subst, ap, ◌∙◌, arith}
use Rattle.std.specs.List.{AllByRecursion, flat_map, range_with_len}
use Rattle.ror_system.specs.System.{IsNarrow}
use Rattle.ror_rows.proofs.FormLemmas.{form_block, form_row-blocks, form_row-narrow, blocks_more}
use Rattle.ror_rows.proofs.differences.row_of_form.Goals as goal

pub loop-i-preserved : goal.loop-i-preserved
loop-i-preserved c =
    blocks_more (form_block c.args.table.now c.args.form) c.loop-i.i c.loop-i.entries.items c.push_criterion.new.row.items c.loop-i.invariant
    (rw (← c.ranks_on.ensures.ranks) c.in_ok-push_criterion.ensures)

pub from_vec-requires : goal.from_vec-requires
from_vec-requires c =
    let last : c.loop-i.i ≡ length c.args.table.now.criteria = omega arith in
    let whole = c.loop-i.invariant ∙ ap (λ n. flat_map (form_block c.args.table.now c.args.form) (range_with_len 0 n)) last ∙ sym (form_row-blocks c.args.table.now c.args.form) in
    subst (AllByRecursion IsNarrow) (sym whole) (form_row-narrow c.args.table.now c.args.form c.criteria-i-end.ensures.table)

pub returns : goal.returns
returns c =
    let last : c.loop-i.i ≡ length c.args.table.now.criteria = omega arith in
    let whole = c.loop-i.invariant ∙ ap (λ n. flat_map (form_block c.args.table.now c.args.form) (range_with_len 0 n)) last ∙ sym (form_row-blocks c.args.table.now c.args.form) in
    subst (λ (xs : List ℤ). IfOk c.from_vec.result (λ row. row ≡ xs)) whole c.from_vec.ensures
