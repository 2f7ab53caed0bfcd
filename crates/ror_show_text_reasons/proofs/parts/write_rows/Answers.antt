use Rattle.std.proofs.lemmas.Result.{on_ok_weaker}
use Rattle.std.proofs.Common.{◌≡◌, ◌++◌, List, ap, ◌∙◌, rules}
use Rattle.ror_statement.specs.declared.statement.Numbered.{Numbered}
use Rattle.ror_reason.specs.Reducts.{part_of}
use Rattle.ror_show_find_proofs.specs.declared.owners.Owners.{Owners}
use Rattle.ror_show_find_proofs.specs.Weights.{owners_of}
use Rattle.ror_show_text_reasons.specs.Parts.{rows_by, rows_text}
use Rattle.ror_show_text_reasons.proofs.parts.write_rows.Goals as goal

pub returns : goal.returns
unfolding rows_text
returns c =
    let sc = c.args.scene.now in
    let x = c.args.case.now in
    let part : c.as_slice.result.now ≡ part_of x.numbers.now sc.list.now = search rules in
    on_ok_weaker c.write_all.result
    (λ last. last ∙ ap (λ (o : Owners). c.args.text.now.items ++ rows_by sc.table.now sc.list.now sc.lines.now x.numbers.now o x.answer.now.verdict) (c.in_ok-owners.ensures ∙ ap (λ (p : List Numbered). owners_of p x.answer.now.question) part))
    c.write_all.ensures
