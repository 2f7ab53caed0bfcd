-- One row more, and all of them.
use Rattle.std.proofs.Common.{◌≡◌, ℕ, List, ◌++◌, ap, ◌∙◌, append_assoc, length, None, get_or, refl, rules}
use Rattle.std.specs.Prelude.{codes}
use Rattle.std.specs.List.{flat_map}
use Rattle.ror_show_find_roll.specs.declared.roll.Source.TheVariants.{File}
use Rattle.ror_show_ground.specs.Grounds.{ground_of}
use Rattle.ror_show_text_roll.specs.Page.{title, entry_row}
use Rattle.ror_show_find_roll.proofs.Loops.{each_at, each_done}
use Rattle.ror_show_text_roll.proofs.page.write_entries.Goals as goal

pub entries-preserved : goal.entries-preserved
entries-preserved c =
    let rows = entry_row (ground_of c.args.ground.now) in
    let pushed : c.write_entry_row.new.text.items ≡ c.entries.text.items ++ entry_row (ground_of c.args.ground.now) (get_or c.args.entries.now c.entries.entry-index (record { number = 0; said = File; instead_of = None })) = search rules in
    each_at rows (flat_map rows) (λ x xs. refl) c.entries.text.items c.write_entry_row.new.text.items (c.write_title.new.text.items ++ flat_map rows c.args.entries.now) c.args.entries.now c.entries.entry-index (record { number = 0; said = File; instead_of = None }) c.entries-test.true pushed c.entries.invariant

pub returns : goal.returns
returns c =
    let rows = entry_row (ground_of c.args.ground.now) in
    let done : c.entries.text.items ≡ c.write_title.new.text.items ++ flat_map (entry_row (ground_of c.args.ground.now)) c.args.entries.now = each_done (flat_map rows) refl c.entries.text.items (c.write_title.new.text.items ++ flat_map rows c.args.entries.now) c.args.entries.now c.entries.entry-index c.entries-test.false c.entries.invariant in
    let titled : c.write_title.new.text.items ≡ c.args.text.now.items ++ title (codes "stands") (length c.args.entries.now) = search rules in
    done ∙ ap (λ (xs : List ℕ). xs ++ flat_map rows c.args.entries.now) titled ∙ append_assoc c.args.text.now.items (title (codes "stands") (length c.args.entries.now)) (flat_map rows c.args.entries.now)
