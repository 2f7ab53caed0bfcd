use Rattle.std.proofs.Common.{◌≡◌, ◌++◌, rules}
use Rattle.ror_show_sheet.specs.Sheet.{sheet_text}
use Rattle.ror_show_sheet.proofs.sheet.write_sheet.Goals as goal

pub returns : goal.returns
returns c =
    let rest = c.in_ok-rest.rest.items in
    let is : c.extend_from_slice.new.self.items ≡ c.args.text.now.items ++ sheet_text c.args.input.now ++ rest = search rules in
    (rest, c.in_ok-rest.ensures, is)
