use Rattle.std.proofs.Common.{◌≡◌, ◌++◌, rules}
use Rattle.ror_show_sheet.proofs.behind.behind.Goals as goal

pub returns : goal.returns
returns c = record {
  file = c.in_ok-text.text.items;
  of_file = c.in_ok-text.ensures;
  said = c.in_ok-said.said.items;
  of_session = c.in_ok-said.ensures;
  text_is = search rules;
}
