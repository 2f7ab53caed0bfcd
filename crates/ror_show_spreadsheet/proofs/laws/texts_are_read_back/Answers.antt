use Rattle.ror_show_spreadsheet.proofs.ReadBack.{texts_are_read_back}
use Rattle.ror_show_spreadsheet.proofs.laws.texts_are_read_back.Goals as goal

pub returns : goal.returns
returns c = texts_are_read_back
