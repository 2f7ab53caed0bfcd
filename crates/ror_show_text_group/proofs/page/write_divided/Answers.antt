use Rattle.std.proofs.Common.{◌≡◌, ◌∙◌, ◌++◌, ℕ, ap, rules}
use Rattle.std.specs.Prelude.{codes}
use Rattle.ror_show_kit.specs.Heads.{counted}
use Rattle.ror_show_find_group.specs.declared.counts.Stand.TheVariants.{Partly, Differ, Unknown}
use Rattle.ror_show_find_group.specs.Counts.{pairs_standing}
use Rattle.ror_show_kit.proofs.Pieces.{four_more}
use Rattle.ror_show_text_group.proofs.page.write_divided.Goals as goal

pub returns : goal.returns
returns c =
    let rows = c.args.rows.now in
    let n = c.args.size in
    let is_partly : c.pairs_standing-partly.result ≡ pairs_standing Partly c.args.rows.now c.args.size = search rules in
    let is_differ : c.pairs_standing-differ.result ≡ pairs_standing Differ c.args.rows.now c.args.size = search rules in
    let is_unknown : c.pairs_standing-unknown.result ≡ pairs_standing Unknown c.args.rows.now c.args.size = search rules in
    four_more (counted (codes "") (pairs_standing Partly rows n)) (counted (codes " decided for some, on ") (pairs_standing Differ rows n)) (counted (codes " judges differ, ") (pairs_standing Unknown rows n)) (codes " not concluded\n") c.args.text.now.items c.write_count.new.text.items c.write_count-2.new.text.items c.write_count-3.new.text.items c.extend_from_slice.new.self.items (c.in_ok-write_count.ensures ∙ ap (λ (m : ℕ). c.args.text.now.items ++ counted (codes "") m) is_partly) (c.in_ok-write_count-2.ensures ∙ ap (λ (m : ℕ). c.write_count.new.text.items ++ counted (codes " decided for some, on ") m) is_differ) (c.in_ok-write_count-3.ensures ∙ ap (λ (m : ℕ). c.write_count-2.new.text.items ++ counted (codes " judges differ, ") m) is_unknown) c.in_ok-extend_from_slice.ensures.items
