use Rattle.std.proofs.Common.{◌≡◌, ℕ, [], ◌∷◌, ◌++◌, length, refl, sym, ap, ◌∙◌, append_assoc}
use Rattle.std.specs.Prelude.{codes, decimal}
use Rattle.ror_table.specs.Table.{id_of}
use Rattle.ror_proof.specs.Printing.{spaced}
use Rattle.ror_proof.proofs.PrintLemmas.{first_word, more_words, line_made, on_ok, front_then}
use Rattle.ror_ranks.specs.SideNames.{side_word}
use Rattle.ror_ranks_text.proofs.print.write_ends.Goals as goal

pub returns-clause-ok : goal.returns-clause-ok
returns-clause-ok c =
    let x = c.args.x.now in
    let start = c.args.text.now.items in
    let side = side_word c.args.side in
    let id = id_of c.args.table.now c.args.alternative in
    let begun = start ++ side in
    let t0 = c.write_extreme_words.new.text.items in
    let t1 = c.write_labelled.new.text.items in
    let t2 = c.write_labelled-2.new.text.items in
    let t3 = c.write_labelled-3.new.text.items in
    let t4 = c.write_labelled-4.new.text.items in
    let from = codes "from" ∷ decimal x.from ∷ [] in
    let to = codes "to" ∷ decimal x.to ∷ [] in
    let conflicts = codes "conflicts" ∷ decimal (length x.conflicts) ∷ [] in
    let nodes = codes "nodes" ∷ decimal (length x.tree) ∷ [] in
    let w0 : t0 ≡ begun ++ spaced (id ∷ []) = first_word begun t0 id (c.in_ok-write_extreme_words.ensures.ok ∙ sym (append_assoc start side (32 ∷ id))) in
    let w1 = more_words begun t0 t1 (id ∷ []) from w0 c.in_ok-write_labelled.ensures.ok in
    let w2 = more_words begun t1 t2 (id ∷ from) to w1 c.in_ok-write_labelled-2.ensures.ok in
    let w3 = more_words begun t2 t3 (id ∷ (from ++ to)) conflicts w2 (c.in_ok-write_labelled-3.ensures.ok ∙ ap (λ (n : ℕ). t2 ++ spaced (codes "conflicts" ∷ decimal n ∷ [])) c.len.ensures) in
    let w4 = more_words begun t3 t4 (id ∷ (from ++ (to ++ conflicts))) nodes w3 (c.in_ok-write_labelled-4.ensures.ok ∙ ap (λ (n : ℕ). t3 ++ spaced (codes "nodes" ∷ decimal n ∷ [])) c.len-2.ensures) in
    on_ok c.end_line.result c.end_line.ensures.ok (λ e. e ∙ line_made start begun t4 side (id ∷ (from ++ (to ++ (conflicts ++ nodes)))) refl w4)

pub returns-clause-front : goal.returns-clause-front
returns-clause-front c =
    let start = c.args.text.now.items in
    let t0 = c.write_extreme_words.new.text.items in
    let t1 = c.write_labelled.new.text.items in
    let t2 = c.write_labelled-2.new.text.items in
    let t3 = c.write_labelled-3.new.text.items in
    let t4 = c.write_labelled-4.new.text.items in
    let f1 = front_then start t0 t1 c.in_ok-write_extreme_words.ensures.front c.in_ok-write_labelled.ensures.front in
    let f2 = front_then start t1 t2 f1 c.in_ok-write_labelled-2.ensures.front in
    let f3 = front_then start t2 t3 f2 c.in_ok-write_labelled-3.ensures.front in
    let f4 = front_then start t3 t4 f3 c.in_ok-write_labelled-4.ensures.front in
    front_then start t4 c.end_line.new.text.items f4 c.end_line.ensures.front
