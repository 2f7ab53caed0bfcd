use Rattle.std.proofs.Common.{◌++◌, Option, ap, ◌∙◌}
use Rattle.std.proofs.lemmas.Result.{on_ok_weaker}
use Rattle.ror_show_find_proofs.specs.declared.sums.Sum.{Sum}
use Rattle.ror_show_text_reasons.specs.SumText.{found_text, sum_text}
use Rattle.ror_show_text_reasons.proofs.sum.write_sum.Goals as goal

pub returns : goal.returns
unfolding sum_text
returns c =
    let old = c.args.text.now.items in
    on_ok_weaker c.write_found.result
    (λ last. last ∙ ap (λ (f : Option Sum). old ++ found_text c.args.table.now f) c.in_ok-found.ensures.value)
    c.write_found.ensures
