use Rattle.std.proofs.Common.{[], ◌∷◌, ◌++◌, map}
use Rattle.std.specs.Prelude.{codes}
use Rattle.std.specs.Fmt.{signed_decimal}
use Rattle.ror_proof.proofs.PrintLemmas.{first_word, more_words, on_ok}
use Rattle.ror_proof.proofs.write.write_multipliers.Goals as goal

pub returns-clause-ok : goal.returns-clause-ok
returns-clause-ok c =
    let start = c.args.text.now.items in
    let m = c.args.multipliers.now in
    let begun = c.write_word.new.text.items in
    let text = c.write_weak_and_strict.new.text.items in
    let numbers = map signed_decimal m.weak ++ codes "|" ∷ map signed_decimal m.strict in
    let first = first_word start begun (codes "multipliers") c.in_ok-write_word.ensures.ok in
    on_ok c.write_weak_and_strict.result c.write_weak_and_strict.ensures.ok (λ e. more_words start begun text (codes "multipliers" ∷ []) numbers first e)
