use Rattle.std.proofs.lemmas.Result.{on_ok_weaker}
use Rattle.std.proofs.Common.{◌≡◌, ◌++◌, List, ap, ◌∙◌, rules}
use Rattle.std.specs.Prelude.{codes}
use Rattle.ror_show_kit.proofs.Pieces.{three_more}
use Rattle.ror_show_find_classes.specs.declared.value.ClassRow.{ClassRow}
use Rattle.ror_show_text_changes.specs.ClassText.{change_lists, alone_list}
use Rattle.ror_show_text_changes.proofs.class_lists.write_found.Goals as goal

pub returns : goal.returns
returns c =
    let t = c.args.table.now in
    let f = c.args.change.now in
    let first = c.write_changes.new.text.items in
    let second = c.write_alone.new.text.items in
    let lists : c.write_changes.new.text.items ≡ c.args.text.now.items ++ change_lists c.args.table.now c.args.change.now.rows = search rules in
    let now = ap (λ (rows : List ClassRow). first ++ alone_list t (codes "  asked now alone:") rows) c.as_slice-now_alone.ensures in
    let before = ap (λ (rows : List ClassRow). second ++ alone_list t (codes "  asked before alone:") rows) c.as_slice-before_alone.ensures in
    on_ok_weaker c.write_alone-2.result
    (λ last. three_more (change_lists t f.rows) (alone_list t (codes "  asked now alone:") f.now_alone) (alone_list t (codes "  asked before alone:") f.before_alone) c.args.text.now.items first second c.write_alone-2.new.text.items lists (c.in_ok-write_alone.ensures ∙ now) (last ∙ before))
    c.write_alone-2.ensures
