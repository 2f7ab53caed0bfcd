use Rattle.std.specs.Prelude.{OnOk}
use Rattle.std.proofs.lemmas.Result.{on_ok_weaker}
use Rattle.std.proofs.Common.{◌≡◌, ◌++◌, rules}
use Rattle.ror_show_kit.proofs.Pieces.{two_more}
use Rattle.ror_show_ground.specs.Grounds.{ground_of}
use Rattle.ror_show_text_changes.specs.ClassText.{head_text, compared}
use Rattle.ror_show_text_changes.proofs.classes.write_change_over.Goals as goal

pub returns : goal.returns
returns c =
    let g = ground_of c.args.ground.now in
    let before = c.args.before.now in
    let now = c.args.now.now in
    let ended : OnOk c.write_compared.result (c.write_compared.new.text.items ≡ c.write_head.new.text.items ++ compared c.args.ground.now.table.now c.args.change.now c.args.before.now.intervals c.args.now.now.intervals) = search rules in
    on_ok_weaker c.write_compared.result
    (λ last. two_more (head_text g before now) (compared g.table c.args.change.now before.intervals now.intervals) c.args.text.now.items c.write_head.new.text.items c.write_compared.new.text.items c.in_ok-write_head.ensures last)
    ended
