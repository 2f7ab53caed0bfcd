use Rattle.std.proofs.Common.{[], ◌∷◌, ◌∙◌}
use Rattle.std.specs.Prelude.{codes, decimal}
use Rattle.ror_proof.proofs.PrintLemmas.{first_word, line_made, on_ok}
use Rattle.ror_ranks_text.proofs.print.write_count.Goals as goal

pub returns-clause-ok : goal.returns-clause-ok
returns-clause-ok c =
    let begun = c.extend_from_slice.new.self.items in
    let text = c.write_number.new.text.items in
    let count = decimal c.args.count in
    let all = first_word begun text count c.in_ok-write_number.ensures.ok in
    on_ok c.end_line.result c.end_line.ensures.ok (λ e. e ∙ line_made c.args.text.now.items begun text (codes "ranks") (count ∷ []) c.in_ok-extend_from_slice.ensures.items all)
