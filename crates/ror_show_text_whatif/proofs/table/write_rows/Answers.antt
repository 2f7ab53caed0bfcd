-- Those with a count, and those with none.
use Rattle.std.proofs.Common.{ℕ, ◌++◌, ap, ◌∙◌}
use Rattle.std.proofs.lemmas.Result.{on_ok_weaker}
use Rattle.ror_show_kit.proofs.Pieces.{two_more}
use Rattle.ror_show_text_whatif.specs.Rows.{most_in}
use Rattle.ror_show_text_whatif.specs.Table.{rows_above, rows_with}
use Rattle.ror_show_text_whatif.proofs.table.write_rows.Goals as goal

pub returns : goal.returns
returns c =
    let t = c.args.table.now in
    let rows = c.args.rows.now in
    let old = c.args.text.now.items in
    on_ok_weaker c.write_each_with.result
    (λ last. two_more (rows_above t rows (most_in rows)) (rows_with t rows 0) old c.write_above.new.text.items c.write_each_with.new.text.items (c.in_ok-write_above.ensures ∙ ap (λ (n : ℕ). old ++ rows_above t rows n) c.most_in.ensures) last)
    c.write_each_with.ensures
