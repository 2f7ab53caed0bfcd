use Rattle.std.proofs.lemmas.Result.{on_ok_weaker}
use Rattle.std.proofs.Common.{◌++◌, Option, ap, ◌∙◌}
use Rattle.ror_value.specs.Value.{Normalised}
use Rattle.ror_show_text_functions.specs.Rises.{found_rises, rises_by}
use Rattle.ror_show_text_functions.proofs.rises.write_rises_by.Goals as goal

pub returns : goal.returns
unfolding rises_by
returns c =
    let t = c.args.table.now in
    let old = c.args.text.now.items in
    on_ok_weaker c.write_found_rises.result
    (λ last. last ∙ ap (λ (f : Option Normalised). old ++ found_rises t f) c.in_ok-found.ensures.value)
    c.write_found_rises.ensures
