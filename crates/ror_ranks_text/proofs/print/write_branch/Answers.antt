use Rattle.std.proofs.Common.{◌≡◌, ℕ, List, [], ◌∷◌, ◌++◌, ap, ◌∙◌}
use Rattle.std.specs.Prelude.{codes, decimal}
use Rattle.ror_proof.proofs.PrintLemmas.{first_word, line_made, on_ok}
use Rattle.ror_ranks_text.proofs.print.write_branch.Goals as goal

pub returns-clause-ok : goal.returns-clause-ok
returns-clause-ok c =
    let start = c.args.text.now.items in
    let begun = c.extend_from_slice.new.self.items in
    let text = c.write_number.new.text.items in
    let place = decimal c.args.place in
    let word : begun ≡ start ++ codes "branch" = c.in_ok-extend_from_slice.ensures.items ∙ ap (λ (l : List ℕ). start ++ l) c.word.ensures in
    let all = first_word begun text place c.in_ok-write_number.ensures.ok in
    on_ok c.end_line.result c.end_line.ensures.ok (λ e. e ∙ line_made start begun text (codes "branch") (place ∷ []) word all)
