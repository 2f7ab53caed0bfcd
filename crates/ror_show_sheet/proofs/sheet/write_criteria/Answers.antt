use Rattle.std.proofs.Common.{ℕ, List, ◌++◌, ◌∙◌, ap, sym, ◌∷◌, [], length}
use Rattle.ror_show_sheet.specs.Pieces.{pieces}
use Rattle.ror_show_sheet.specs.Sheet.{criteria_head, criterion_text}
use Rattle.ror_show_sheet.proofs.Chains.{on_ok, three_more, criteria_are}
use Rattle.ror_show_sheet.proofs.sheet.write_criteria.Goals as goal

pub returns : goal.returns
returns c =
    let t = c.args.table.now in
    on_ok c.write_end.result _ _ (λ last. three_more (criteria_head t) (pieces (criterion_text t) (length t.criteria)) (10 ∷ []) c.args.text.now.items c.write_criteria_head.new.text.items c.write_all_criteria.new.text.items c.write_end.new.text.items c.in_ok-write_criteria_head.ensures c.in_ok-write_all_criteria.ensures last ∙ ap (λ (qs : List ℕ). c.args.text.now.items ++ qs) (sym (criteria_are t))) c.write_end.ensures
