use Rattle.std.proofs.lemmas.Result.{on_ok_weaker}
use Rattle.std.proofs.Common.{◌≡◌, ℕ, ◌++◌, length, ap, ◌∙◌, rules}
use Rattle.ror_show_find_relation.specs.Rows.{unknown_pairs, contradictory_pairs, pairs_among}
use Rattle.ror_show_text_relation.specs.Text.{pairs_text, rest_text}
use Rattle.ror_show_kit.proofs.Pieces.{two_more}
use Rattle.ror_show_text_relation.proofs.text.write_counts.Goals as goal

pub returns : goal.returns
returns c =
    let t = c.args.table.now in
    let page = c.args.page.now in
    let old = c.args.text.now.items in
    let first = c.write_pairs.new.text.items in
    let unknown = unknown_pairs page.rows (length t.alternatives) in
    let is_pairs : c.pairs_among.result ≡ pairs_among (length c.args.table.now.alternatives) = search rules in
    let is_unknown : c.unknown_pairs-unknown.result ≡ unknown_pairs c.args.page.now.rows (length c.args.table.now.alternatives) = search rules in
    let is_contradictory : c.contradictory_pairs-contradictory.result ≡ contradictory_pairs c.args.page.now.rows (length c.args.table.now.alternatives) = search rules in
    let pairs = ap (λ (n : ℕ). old ++ pairs_text n page.counts c.unknown_pairs-unknown.result) is_pairs ∙ ap (λ (n : ℕ). old ++ pairs_text (pairs_among (length t.alternatives)) page.counts n) is_unknown in
    let rest = ap (λ (n : ℕ). first ++ rest_text n page.counts.by_dominance) is_contradictory in
    on_ok_weaker c.write_rest.result
    (λ last. two_more (pairs_text (pairs_among (length t.alternatives)) page.counts unknown) (rest_text (contradictory_pairs page.rows (length t.alternatives)) page.counts.by_dominance) old first c.write_rest.new.text.items (c.in_ok-write_pairs.ensures ∙ pairs) (last ∙ rest))
    c.write_rest.ensures
