use Rattle.std.proofs.Common.{◌≡◌, ℕ, List, ◌++◌, map, ap, ◌∙◌}
use Rattle.std.specs.Prelude.{codes, decimal}
use Rattle.ror_proof.proofs.PrintLemmas.{line_made, on_ok}
use Rattle.ror_ranks_text.proofs.print.write_leaf.Goals as goal

pub returns-clause-ok : goal.returns-clause-ok
returns-clause-ok c =
    let start = c.args.text.now.items in
    let begun = c.extend_from_slice.new.self.items in
    let text = c.write_places.new.text.items in
    let word : begun ≡ start ++ codes "leaf" = c.in_ok-extend_from_slice.ensures.items ∙ ap (λ (l : List ℕ). start ++ l) c.word.ensures in
    on_ok c.end_line.result c.end_line.ensures.ok (λ e. e ∙ line_made start begun text (codes "leaf") (map decimal c.args.places.now) word c.in_ok-write_places.ensures.ok)
