use Rattle.std.proofs.Common.{◌≡◌, ◌++◌, inr, rules}
use Rattle.ror_show_sheet.proofs.behind.headed.Goals as goal

pub returns : goal.returns
returns c =
    let is : c.extend_from_slice.new.self.items ≡ c.args.head.now ++ c.args.notes.now = search rules in
    inr (c.args.notes.now, c.requires, is)
