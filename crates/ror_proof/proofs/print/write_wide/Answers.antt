use Rattle.std.proofs.Common.{ℕ, List, [], ◌∷◌, ◌++◌, map, ap, ◌∙◌, append_assoc}
use Rattle.std.specs.Prelude.{codes, decimal}
use Rattle.ror_proof.specs.Printing.{spaced}
use Rattle.ror_proof.proofs.PrintLemmas.{first_word, more_words, one_word, line_made, on_ok, front_added, front_then}
use Rattle.ror_proof.specs.Text.{place_words, pivot_word}
use Rattle.ror_proof.proofs.print.write_wide.Goals as goal

pub returns-clause-ok : goal.returns-clause-ok
returns-clause-ok c =
    let note = c.args.note.now in
    let begun = c.extend_from_slice.new.self.items in
    let numbered = c.write_number.new.text.items in
    let placed = c.write_place.new.text.items in
    let worded = c.write_word.new.text.items in
    let text = c.write_pivots.new.text.items in
    let system = decimal c.args.system in
    let place = place_words note.place in
    let path = map pivot_word note.path in
    let first = first_word begun numbered system c.in_ok-write_number.ensures.ok in
    let second = more_words begun numbered placed (system ∷ []) place first c.in_ok-write_place.ensures.ok in
    let third = one_word begun placed worded (system ∷ place) (codes "path") second c.in_ok-write_word.ensures.ok in
    let pivots = c.in_ok-write_pivots.ensures.ok ∙ ap (λ p. worded ++ spaced (map pivot_word p)) c.as_slice.ensures in
    let all = more_words begun worded text (system ∷ (place ++ codes "path" ∷ [])) path third pivots in
    let regrouped = ap (λ (ws : List (List ℕ)). begun ++ spaced (system ∷ ws)) (append_assoc place (codes "path" ∷ []) path) in
    on_ok c.end_line.result c.end_line.ensures.ok (λ e. e ∙ line_made c.args.text.now.items begun text (codes "wide") (system ∷ (place ++ codes "path" ∷ path)) c.in_ok-extend_from_slice.ensures.items (all ∙ regrouped))

pub returns-clause-front : goal.returns-clause-front
returns-clause-front c =
    let begun = front_added c.args.text.now.items c.extend_from_slice.new.self.items (codes "wide") c.in_ok-extend_from_slice.ensures.items in
    let numbered = front_then _ _ _ begun c.in_ok-write_number.ensures.front in
    let placed = front_then _ _ _ numbered c.in_ok-write_place.ensures.front in
    let worded = front_then _ _ _ placed c.in_ok-write_word.ensures.front in
    front_then _ _ _ (front_then _ _ _ worded c.in_ok-write_pivots.ensures.front) c.end_line.ensures.front
