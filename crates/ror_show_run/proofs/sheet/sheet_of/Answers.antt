use Rattle.std.proofs.Common.{◌≡◌, ◌++◌, rules}
use Rattle.ror_show_sheet.specs.Sheet.{sheet_text}
use Rattle.ror_show_run.proofs.sheet.sheet_of.Goals as goal

pub returns : goal.returns
returns c =
    let added = c.in_ok-write_sheet.ensures in
    let is : c.write_sheet.new.text.items ≡ sheet_text c.args.papers.now.input.now ++ added.0 = search rules in
    (added.0, added.1, is)
