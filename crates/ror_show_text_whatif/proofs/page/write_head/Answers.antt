use Rattle.std.proofs.Common.{◌≡◌, ◌++◌, rules}
use Rattle.std.specs.Prelude.{codes}
use Rattle.std.proofs.lemmas.Result.{on_ok_weaker}
use Rattle.ror_show_kit.specs.Heads.{line_text}
use Rattle.ror_show_kit.proofs.Pieces.{three_more}
use Rattle.ror_show_ground.specs.Lines.{desk_at}
use Rattle.ror_show_text_classes.specs.Text.{stood_text}
use Rattle.ror_show_text_whatif.proofs.page.write_head.Goals as goal

pub returns : goal.returns
returns c =
    let x = c.args.line.now in
    let line : c.write_line.new.text.items ≡ c.args.text.now.items ++ line_text c.args.line.now.block.line (desk_at c.args.ground.now.session.now c.args.line.now) = search rules in
    let asks : c.extend_from_slice.new.self.items ≡ c.write_line.new.text.items ++ codes "  ask relation\n" = c.in_ok-extend_from_slice.ensures.items in
    on_ok_weaker c.write_stood.result
    (λ last. three_more (line_text x.block.line (desk_at c.args.ground.now.session.now x)) (codes "  ask relation\n") (stood_text x.standing) c.args.text.now.items c.write_line.new.text.items c.extend_from_slice.new.self.items c.write_stood.new.text.items line asks last)
    c.write_stood.ensures
