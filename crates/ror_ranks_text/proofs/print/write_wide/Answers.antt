use Rattle.std.proofs.Common.{◌≡◌, ℕ, List, [], ◌∷◌, ◌++◌, refl, sym, ap, ◌∙◌, append_assoc}
use Rattle.std.specs.Prelude.{codes}
use Rattle.ror_text.specs.SpacedLines.{line_text}
use Rattle.ror_table.specs.Table.{id_of}
use Rattle.ror_proof.specs.Printing.{spaced}
use Rattle.ror_proof.proofs.PrintLemmas.{first_word, one_word, more_words, line_made, on_ok, front_then}
use Rattle.ror_discriminate.specs.Text.{place_words, path_words}
use Rattle.ror_ranks.specs.SideNames.{side_word}
use Rattle.ror_ranks_text.specs.Text.{ids_text}
use Rattle.ror_ranks_text.proofs.print.write_wide.Goals as goal

pub returns-clause-ok : goal.returns-clause-ok
returns-clause-ok c =
    let note = c.args.x.now.note in
    let start = c.args.text.now.items in
    let side = side_word c.args.side in
    let id = id_of c.args.table.now c.args.alternative in
    let begun = start ++ side in
    let t0 = c.write_extreme_words.new.text.items in
    let t1 = c.write_word.new.text.items in
    let t2 = c.write_place.new.text.items in
    let t3 = c.write_path.new.text.items in
    let place = place_words note.place in
    let path = path_words note.path in
    let w0 : t0 ≡ begun ++ spaced (id ∷ []) = first_word begun t0 id (c.in_ok-write_extreme_words.ensures.ok ∙ sym (append_assoc start side (32 ∷ id))) in
    let w1 = one_word begun t0 t1 (id ∷ []) (codes "wide") w0 c.in_ok-write_word.ensures.ok in
    let w2 = more_words begun t1 t2 (id ∷ codes "wide" ∷ []) place w1 c.in_ok-write_place.ensures.ok in
    let steps = c.in_ok-write_path.ensures.ok ∙ ap (λ (p : List (ℕ × ℕ)). t2 ++ spaced (path_words p)) c.as_slice.ensures in
    let w3 = more_words begun t2 t3 (id ∷ codes "wide" ∷ place) path w2 steps in
    let first = line_text (side ∷ id ∷ codes "wide" ∷ (place ++ path)) in
    let ids = ids_text c.args.table.now (codes "over") c.args.x.now.members in
    let line : c.end_line.new.text.items ≡ start ++ first = c.in_ok-end_line.ensures.ok ∙ line_made start begun t3 side (id ∷ codes "wide" ∷ (place ++ path)) refl w3 in
    let members = ap (λ (l : List ℕ). c.end_line.new.text.items ++ ids_text c.args.table.now (codes "over") l) c.as_slice-2.ensures in
    on_ok c.write_ids.result c.write_ids.ensures.ok (λ e. e ∙ members ∙ ap (λ (l : List ℕ). l ++ ids) line ∙ append_assoc start first ids)

pub returns-clause-front : goal.returns-clause-front
returns-clause-front c =
    let start = c.args.text.now.items in
    let t0 = c.write_extreme_words.new.text.items in
    let t1 = c.write_word.new.text.items in
    let t2 = c.write_place.new.text.items in
    let t3 = c.write_path.new.text.items in
    let t4 = c.end_line.new.text.items in
    let f1 = front_then start t0 t1 c.in_ok-write_extreme_words.ensures.front c.in_ok-write_word.ensures.front in
    let f2 = front_then start t1 t2 f1 c.in_ok-write_place.ensures.front in
    let f3 = front_then start t2 t3 f2 c.in_ok-write_path.ensures.front in
    let f4 = front_then start t3 t4 f3 c.in_ok-end_line.ensures.front in
    front_then start t4 c.write_ids.new.text.items f4 c.write_ids.ensures.front
