use Rattle.std.proofs.Common.{[], ◌∷◌, ◌∙◌}
use Rattle.std.specs.Prelude.{codes, decimal}
use Rattle.ror_proof.proofs.PrintLemmas.{first_word, more_words, line_made, on_ok}
use Rattle.ror_proof.specs.Text.{certificate_words}
use Rattle.ror_proof.proofs.print.write_part.Goals as goal

pub returns-clause-ok : goal.returns-clause-ok
returns-clause-ok c =
    let begun = c.extend_from_slice.new.self.items in
    let numbered = c.write_number.new.text.items in
    let text = c.write_certificate.new.text.items in
    let number = decimal c.args.part.now.at in
    let words = certificate_words c.args.part.now.body in
    let first = first_word begun numbered number c.in_ok-write_number.ensures.ok in
    let all = more_words begun numbered text (number ∷ []) words first c.in_ok-write_certificate.ensures.ok in
    on_ok c.end_line.result c.end_line.ensures.ok (λ e. e ∙ line_made c.args.text.now.items begun text (codes "part") (number ∷ words) c.in_ok-extend_from_slice.ensures.items all)
