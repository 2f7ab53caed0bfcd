use Rattle.std.proofs.Common.{[], ◌∷◌, ◌∙◌}
use Rattle.std.specs.Prelude.{codes, decimal}
use Rattle.ror_proof.proofs.PrintLemmas.{first_word, more_words, line_made, on_ok}
use Rattle.ror_proof.specs.Text.{multipliers_words}
use Rattle.ror_proof.proofs.print.write_dropped_line.Goals as goal

pub returns-clause-ok : goal.returns-clause-ok
returns-clause-ok c =
    let dropped = c.args.dropped.now in
    let begun = c.extend_from_slice.new.self.items in
    let numbered = c.write_number.new.text.items in
    let text = c.write_multipliers.new.text.items in
    let number = decimal dropped.number in
    let words = multipliers_words dropped.proof.weak dropped.proof.strict in
    let first = first_word begun numbered number c.in_ok-write_number.ensures.ok in
    let all = more_words begun numbered text (number ∷ []) words first c.in_ok-write_multipliers.ensures.ok in
    on_ok c.end_line.result c.end_line.ensures.ok (λ e. e ∙ line_made c.args.text.now.items begun text (codes "dropped") (number ∷ words) c.in_ok-extend_from_slice.ensures.items all)
