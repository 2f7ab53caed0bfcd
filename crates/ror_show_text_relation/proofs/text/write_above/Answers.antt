use Rattle.ror_show_ground.specs.Heads.{head_of}
use Rattle.ror_show_text_relation.specs.Text.{head_text, legend}
use Rattle.ror_show_kit.specs.Heads.{statements_text}
use Rattle.std.proofs.Common.{◌≡◌, ◌++◌, rules}
use Rattle.ror_show_kit.proofs.Pieces.{three_more}
use Rattle.ror_show_text_relation.proofs.text.write_above.Goals as goal

pub returns : goal.returns
returns c =
    let h = head_of c.args.heading.now in
    let last : c.extend_from_slice.new.self.items ≡ c.write_statements.new.text.items ++ legend = search rules in
    three_more (head_text h) (statements_text h.numbers) legend c.args.text.now.items c.write_head.new.text.items c.write_statements.new.text.items c.extend_from_slice.new.self.items c.in_ok-write_head.ensures c.in_ok-write_statements.ensures last
