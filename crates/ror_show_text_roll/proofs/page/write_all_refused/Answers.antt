-- One row more, and all of them.
use Rattle.std.proofs.Common.{◌≡◌, ℕ, List, ◌++◌, ap, ◌∙◌, append_assoc, length, get_or, refl, rules}
use Rattle.std.specs.Prelude.{codes}
use Rattle.std.specs.List.{flat_map}
use Rattle.ror_report.specs.declared.block.LineFault.TheVariants.{UnknownAlternative}
use Rattle.ror_show_ground.specs.Grounds.{ground_of}
use Rattle.ror_show_text_roll.specs.Page.{title, refused_row}
use Rattle.ror_show_find_roll.proofs.Loops.{each_at, each_done}
use Rattle.ror_show_text_roll.proofs.page.write_all_refused.Goals as goal

pub refused-preserved : goal.refused-preserved
refused-preserved c =
    let rows = refused_row (ground_of c.args.ground.now) in
    let pushed : c.write_refused_row.new.text.items ≡ c.refused.text.items ++ refused_row (ground_of c.args.ground.now) (get_or c.args.refused.now c.refused.line-index (record { place = 0; fault = UnknownAlternative })) = search rules in
    each_at rows (flat_map rows) (λ x xs. refl) c.refused.text.items c.write_refused_row.new.text.items (c.write_title.new.text.items ++ flat_map rows c.args.refused.now) c.args.refused.now c.refused.line-index (record { place = 0; fault = UnknownAlternative }) c.refused-test.true pushed c.refused.invariant

pub returns : goal.returns
returns c =
    let rows = refused_row (ground_of c.args.ground.now) in
    let done : c.refused.text.items ≡ c.write_title.new.text.items ++ flat_map (refused_row (ground_of c.args.ground.now)) c.args.refused.now = each_done (flat_map rows) refl c.refused.text.items (c.write_title.new.text.items ++ flat_map rows c.args.refused.now) c.args.refused.now c.refused.line-index c.refused-test.false c.refused.invariant in
    let titled : c.write_title.new.text.items ≡ c.args.text.now.items ++ title (codes "refused") (length c.args.refused.now) = search rules in
    done ∙ ap (λ (xs : List ℕ). xs ++ flat_map rows c.args.refused.now) titled ∙ append_assoc c.args.text.now.items (title (codes "refused") (length c.args.refused.now)) (flat_map rows c.args.refused.now)
