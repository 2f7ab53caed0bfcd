use Rattle.std.proofs.Common.{ℕ, List, [], ◌∷◌, ◌++◌, ap, ◌∙◌}
use Rattle.std.specs.Prelude.{codes}
use Rattle.ror_proof.specs.Printing.{spaced}
use Rattle.ror_proof.proofs.PrintLemmas.{first_word, more_words, line_made, on_ok}
use Rattle.ror_discriminate.specs.Text.{climb_place_words, path_words}
use Rattle.ror_discriminate.proofs.print.write_climb_wide.Goals as goal

pub returns-clause-ok : goal.returns-clause-ok
returns-clause-ok c =
    let note = c.args.note.now in
    let begun = c.extend_from_slice.new.self.items in
    let worded = c.write_word.new.text.items in
    let placed = c.write_climb_place.new.text.items in
    let text = c.write_path.new.text.items in
    let place = climb_place_words note.place in
    let path = path_words note.path in
    let first = first_word begun worded (codes "climb") c.in_ok-write_word.ensures.ok in
    let second = more_words begun worded placed (codes "climb" ∷ []) place first c.in_ok-write_climb_place.ensures.ok in
    let steps = c.in_ok-write_path.ensures.ok ∙ ap (λ (p : List (ℕ × ℕ)). placed ++ spaced (path_words p)) c.as_slice.ensures in
    let all = more_words begun placed text (codes "climb" ∷ place) path second steps in
    on_ok c.end_line.result c.end_line.ensures.ok (λ e. e ∙ line_made c.args.text.now.items begun text (codes "wide") (codes "climb" ∷ (place ++ path)) c.in_ok-extend_from_slice.ensures.items all)
