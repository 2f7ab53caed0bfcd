use Rattle.std.proofs.lemmas.Result.{on_ok_weaker}
use Rattle.ror_show_kit.proofs.Pieces.{two_more}
use Rattle.ror_show_text_changes.specs.Text.{head_text, compared}
use Rattle.ror_show_text_changes.proofs.relations.write_change_over.Goals as goal

pub returns : goal.returns
returns c =
    let g = c.args.ground.now in
    on_ok_weaker c.write_compared.result
    (λ last. two_more (head_text g.session.now c.args.before.now c.args.now.now) (compared g.table.now c.args.change.now) c.args.text.now.items c.write_head.new.text.items c.write_compared.new.text.items c.in_ok-write_head.ensures last)
    c.write_compared.ensures
