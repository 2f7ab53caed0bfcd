use Rattle.std.proofs.lemmas.Result.{on_ok_weaker}
use Rattle.std.proofs.Common.{◌++◌, Option, ap, ◌∙◌}
use Rattle.ror_value.specs.Value.{Normalised}
use Rattle.ror_show_text_reasons.specs.Sides.{found_sides, sides_by}
use Rattle.ror_show_text_reasons.proofs.sides.write_by.Goals as goal

pub returns : goal.returns
unfolding sides_by
returns c =
    let t = c.args.table.now in
    let old = c.args.text.now.items in
    on_ok_weaker c.write_found.result
    (λ last. last ∙ ap (λ (f : Option Normalised). old ++ found_sides t c.args.form f) c.in_ok-found.ensures.value)
    c.write_found.ensures
