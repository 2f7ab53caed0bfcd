use Rattle.std.proofs.Common.{◌∙◌, ap, map}
use Rattle.std.specs.List.{find}
use Rattle.std.specs.Option.{option_map}
use Rattle.std.specs.Str.{bytes_eq}
use Rattle.ror_words.specs.Named.{row_with}
use Rattle.ror_words.proofs.WordLemmas.{row_found}
use Rattle.ror_words.proofs.table.row_for.Goals as goal

pub returns : goal.returns
returns c =
    let word = c.args.word.now in
    ap (option_map row_with) c.row_in.ensures
    ∙ row_found word c.as_slice.result.now
    ∙ ap (λ rows. find (λ row. bytes_eq row.word word) (map row_with rows)) c.as_slice.ensures
