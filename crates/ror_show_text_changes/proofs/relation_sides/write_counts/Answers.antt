use Rattle.std.proofs.lemmas.Result.{on_ok_weaker}
use Rattle.std.proofs.Common.{◌≡◌, ℕ, ◌++◌, length, ap, ◌∙◌, rules}
use Rattle.ror_show_find_relation.specs.Rows.{pairs_among, unknown_pairs}
use Rattle.ror_show_kit.proofs.Pieces.{two_more}
use Rattle.ror_show_text_changes.specs.Text.{decided_text, missing_text}
use Rattle.ror_show_text_changes.proofs.relation_sides.write_counts.Goals as goal

pub returns : goal.returns
returns c =
    let before = c.args.before.now in
    let now = c.args.now.now in
    let n = length c.args.table.now.alternatives in
    let first = c.write_decided.new.text.items in
    let decided : c.write_decided.new.text.items ≡ c.args.text.now.items ++ decided_text (pairs_among (length c.args.table.now.alternatives)) c.args.before.now.counts.decided c.args.now.now.counts.decided = search rules in
    let was : c.unknown_pairs-unknown_before.result ≡ unknown_pairs c.args.before.now.rows (length c.args.table.now.alternatives) = search rules in
    let is : c.unknown_pairs-unknown_now.result ≡ unknown_pairs c.args.now.now.rows (length c.args.table.now.alternatives) = search rules in
    on_ok_weaker c.write_missing.result
    (λ last. two_more (decided_text (pairs_among n) before.counts.decided now.counts.decided) (missing_text (unknown_pairs before.rows n) (unknown_pairs now.rows n)) c.args.text.now.items first c.write_missing.new.text.items decided
    (last ∙ ap (λ (k : ℕ). first ++ missing_text k c.unknown_pairs-unknown_now.result) was ∙ ap (λ (k : ℕ). first ++ missing_text (unknown_pairs before.rows n) k) is))
    c.write_missing.ensures
