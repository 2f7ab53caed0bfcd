use Rattle.std.proofs.Common.{ℕ, List, ◌++◌, ◌∙◌, ap, sym, ◌∷◌, [], length}
use Rattle.ror_show_sheet.specs.Pieces.{pieces}
use Rattle.ror_show_sheet.specs.Sheet.{statements_head, statement_line}
use Rattle.ror_show_sheet.proofs.Chains.{on_ok, three_more, statements_are}
use Rattle.ror_show_sheet.proofs.statements.write_statements.Goals as goal

pub returns : goal.returns
returns c =
    let t = c.args.table.now in
    let list = c.args.list.now in
    on_ok c.write_end.result _ _ (λ last. three_more (statements_head list) (pieces (statement_line t list) (length list)) (10 ∷ []) c.args.text.now.items c.write_head.new.text.items c.write_lines.new.text.items c.write_end.new.text.items c.in_ok-write_head.ensures c.in_ok-write_lines.ensures last ∙ ap (λ (qs : List ℕ). c.args.text.now.items ++ qs) (sym (statements_are t list))) c.write_end.ensures
