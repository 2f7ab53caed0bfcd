-- One row more, and all of them.
use Rattle.std.proofs.Common.{◌≡◌, ℕ, List, ◌++◌, ap, ◌∙◌, append_assoc, length, None, false, get_or, refl, rules}
use Rattle.std.specs.Prelude.{codes}
use Rattle.std.specs.List.{flat_map}
use Rattle.ror_show_find_roll.specs.declared.roll.Source.TheVariants.{File}
use Rattle.ror_show_ground.specs.Grounds.{ground_of}
use Rattle.ror_show_text_roll.specs.Page.{title, gone_row}
use Rattle.ror_show_find_roll.proofs.Loops.{each_at, each_done}
use Rattle.ror_show_text_roll.proofs.page.write_all_gone.Goals as goal

pub gone-preserved : goal.gone-preserved
gone-preserved c =
    let rows = gone_row (ground_of c.args.ground.now) in
    let pushed : c.write_gone_row.new.text.items ≡ c.gone.text.items ++ gone_row (ground_of c.args.ground.now) (get_or c.args.gone.now c.gone.one-index (record { entry = record { number = 0; said = File; instead_of = None }; by = 0; by_repair = false })) = search rules in
    each_at rows (flat_map rows) (λ x xs. refl) c.gone.text.items c.write_gone_row.new.text.items (c.write_title.new.text.items ++ flat_map rows c.args.gone.now) c.args.gone.now c.gone.one-index (record { entry = record { number = 0; said = File; instead_of = None }; by = 0; by_repair = false }) c.gone-test.true pushed c.gone.invariant

pub returns : goal.returns
returns c =
    let rows = gone_row (ground_of c.args.ground.now) in
    let done : c.gone.text.items ≡ c.write_title.new.text.items ++ flat_map (gone_row (ground_of c.args.ground.now)) c.args.gone.now = each_done (flat_map rows) refl c.gone.text.items (c.write_title.new.text.items ++ flat_map rows c.args.gone.now) c.args.gone.now c.gone.one-index c.gone-test.false c.gone.invariant in
    let titled : c.write_title.new.text.items ≡ c.args.text.now.items ++ title (codes "stands no more") (length c.args.gone.now) = search rules in
    done ∙ ap (λ (xs : List ℕ). xs ++ flat_map rows c.args.gone.now) titled ∙ append_assoc c.args.text.now.items (title (codes "stands no more") (length c.args.gone.now)) (flat_map rows c.args.gone.now)
