use Rattle.std.proofs.lemmas.Result.{on_ok_weaker}
use Rattle.std.proofs.Common.{◌≡◌, ◌++◌, rules}
use Rattle.ror_show_kit.proofs.Pieces.{four_more}
use Rattle.ror_show_text_classes.specs.Text.{head_text, legend, table_text, assigned_text}
use Rattle.ror_show_text_classes.proofs.time.write_time_over.Goals as goal

pub returns : goal.returns
returns c =
    let t = c.args.ground.now.table.now in
    let s = c.args.ground.now.session.now in
    let time = c.args.time.now in
    let signs : c.write_legend.new.text.items ≡ c.write_head.new.text.items ++ legend c.args.ground.now.table.now.classes = search rules in
    let rows : c.write_table.new.text.items ≡ c.write_legend.new.text.items ++ table_text c.args.ground.now.table.now c.args.time.now.rows = search rules in
    on_ok_weaker c.write_assigned.result
    (λ last. four_more (head_text s c.args.line.now time.last) (legend t.classes) (table_text t time.rows) (assigned_text t c.args.line.now.standing) c.args.text.now.items c.write_head.new.text.items c.write_legend.new.text.items c.write_table.new.text.items c.write_assigned.new.text.items c.in_ok-write_head.ensures signs rows last)
    c.write_assigned.ensures
