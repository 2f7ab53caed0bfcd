use Rattle.std.proofs.Common.{◌≡◌, ◌∙◌, ◌++◌, ℕ, ap, rules}
use Rattle.std.specs.Prelude.{codes}
use Rattle.ror_show_kit.specs.Heads.{counted}
use Rattle.ror_show_find_group.specs.declared.counts.Stand.TheVariants.{Decided, Open}
use Rattle.ror_show_find_group.specs.Counts.{pairs_standing}
use Rattle.ror_show_find_relation.specs.Rows.{pairs_among}
use Rattle.ror_show_kit.proofs.Pieces.{four_more}
use Rattle.ror_show_text_group.proofs.page.write_agreed.Goals as goal

pub returns : goal.returns
returns c =
    let rows = c.args.rows.now in
    let n = c.args.size in
    let is_pairs : c.pairs_among.result ≡ pairs_among c.args.size = search rules in
    let is_decided : c.pairs_standing-decided.result ≡ pairs_standing Decided c.args.rows.now c.args.size = search rules in
    let is_open : c.pairs_standing-open.result ≡ pairs_standing Open c.args.rows.now c.args.size = search rules in
    four_more (counted (codes "\n  of ") (pairs_among n)) (counted (codes " pairs ") (pairs_standing Decided rows n)) (counted (codes " are decided and ") (pairs_standing Open rows n)) (codes " open for every judge, ") c.args.text.now.items c.write_count.new.text.items c.write_count-2.new.text.items c.write_count-3.new.text.items c.extend_from_slice.new.self.items (c.in_ok-write_count.ensures ∙ ap (λ (m : ℕ). c.args.text.now.items ++ counted (codes "\n  of ") m) is_pairs) (c.in_ok-write_count-2.ensures ∙ ap (λ (m : ℕ). c.write_count.new.text.items ++ counted (codes " pairs ") m) is_decided) (c.in_ok-write_count-3.ensures ∙ ap (λ (m : ℕ). c.write_count-2.new.text.items ++ counted (codes " are decided and ") m) is_open) c.in_ok-extend_from_slice.ensures.items
