use Rattle.std.proofs.Common.{sym, ◌∙◌}
use Rattle.std.proofs.lemmas.List.Folds.{list_all-map}
use Rattle.ror_words.specs.Words.{is_number}
use Rattle.ror_words.proofs.words.fit.Goals as goal

pub returns : goal.returns
returns c =
    rw c.if-not-numbers.false (c.are_numbers.ensures ∙ sym (list_all-map is_number (λ name. name.now) c.args.names.now))
