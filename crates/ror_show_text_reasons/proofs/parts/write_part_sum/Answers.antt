use Rattle.std.proofs.Common.{◌≡◌, ◌++◌, List, sym, ap, subst, ◌∙◌, rules}
use Rattle.std.proofs.lemmas.Result.{on_ok_weaker}
use Rattle.ror_statement.specs.declared.statement.Statement.{Statement}
use Rattle.ror_value.specs.Over.{IsLawfulIn}
use Rattle.ror_reason.specs.Reducts.{stated}
use Rattle.ror_reason.proofs.Parts.{stated_lawful}
use Rattle.ror_show_text_reasons.specs.SumText.{sum_text}
use Rattle.ror_show_text_reasons.specs.Parts.{part_sum}
use Rattle.ror_show_text_reasons.proofs.parts.write_part_sum.Goals as goal

pub write_sum-requires-clause-lawful : goal.write_sum-requires-clause-lawful
write_sum-requires-clause-lawful c =
    let sc = c.args.scene.now in
    let ns = c.args.case.now.numbers.now in
    let is : c.as_slice.result.now ≡ stated ns sc.list.now = search rules in
    subst (IsLawfulIn sc.table.now) (sym is) (stated_lawful sc.table.now sc.list.now ns c.requires.lawful)

pub returns : goal.returns
unfolding part_sum
returns c =
    let sc = c.args.scene.now in
    let x = c.args.case.now in
    let is : c.as_slice.result.now ≡ stated x.numbers.now sc.list.now = search rules in
    on_ok_weaker c.write_sum.result
    (λ last. last ∙ ap (λ (xs : List Statement). c.args.text.now.items ++ sum_text sc.table.now xs x.answer.now.question x.answer.now.verdict) is)
    c.write_sum.ensures
