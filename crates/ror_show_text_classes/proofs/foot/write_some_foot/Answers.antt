use Rattle.std.proofs.lemmas.Result.{on_ok_weaker}
use Rattle.std.proofs.Common.{◌≡◌, ◌++◌, length, rules}
use Rattle.ror_show_kit.proofs.Pieces.{two_more}
use Rattle.ror_show_text_classes.specs.Text.{settled_among, settled_text, open_text}
use Rattle.ror_show_text_classes.proofs.foot.write_some_foot.Goals as goal

pub returns : goal.returns
returns c =
    let rows = c.args.rows.now in
    let settled : c.write_settled.new.text.items ≡ c.args.text.now.items ++ settled_text (settled_among c.args.rows.now) (length c.args.rows.now) = search rules in
    on_ok_weaker c.write_open.result
    (λ last. two_more (settled_text (settled_among rows) (length rows)) (open_text c.args.table.now rows) c.args.text.now.items c.write_settled.new.text.items c.write_open.new.text.items settled last)
    c.write_open.ensures
