use Rattle.std.proofs.Common.{◌≡◌, [], ◌∷◌, ◌++◌, ◌∙◌, FitsSigned, rules}
use Rattle.std.specs.Int.{w128}
use Rattle.std.specs.Prelude.{codes}
use Rattle.std.specs.Fmt.{signed_decimal}
use Rattle.std.proofs.lemmas.Int.{to_z-of_z}
use Rattle.ror_proof.proofs.PrintLemmas.{first_word, one_word, line_made, on_ok}
use Rattle.ror_discriminate.proofs.print.write_margin.Goals as goal

pub returns-clause-ok : goal.returns-clause-ok
returns-clause-ok c =
    let begun = c.extend_from_slice.new.self.items in
    let first = c.write_number.new.text.items in
    let text = c.write_number-2.new.text.items in
    let margin = signed_decimal c.args.margin in
    let total = signed_decimal c.args.total in
    let fits : FitsSigned w128 c.args.margin = search rules in
    let fits_too : FitsSigned w128 c.args.total = search rules in
    let one : first ≡ begun ++ 32 ∷ margin = rw (to_z-of_z w128 c.args.margin fits) at c.in_ok-write_number.ensures.ok in
    let two : text ≡ first ++ 32 ∷ total = rw (to_z-of_z w128 c.args.total fits_too) at c.in_ok-write_number-2.ensures.ok in
    let all = one_word begun first text (margin ∷ []) total (first_word begun first margin one) two in
    on_ok c.end_line.result c.end_line.ensures.ok (λ e. e ∙ line_made c.args.text.now.items begun text (codes "margin") (margin ∷ total ∷ []) c.in_ok-extend_from_slice.ensures.items all)
