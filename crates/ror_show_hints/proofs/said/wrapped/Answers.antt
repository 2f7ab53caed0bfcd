use Rattle.std.proofs.Common.{◌≡◌, rules}
use Rattle.ror_show_hints.specs.Forms.{said_text}
use Rattle.ror_show_hints.proofs.said.wrapped.Goals as goal

pub returns : goal.returns
returns c =
    let is : c.extend_from_slice.new.self.items ≡ said_text c.args.label.now c.args.sentence.now = search rules in
    (c.args.sentence.now, c.requires, is)
