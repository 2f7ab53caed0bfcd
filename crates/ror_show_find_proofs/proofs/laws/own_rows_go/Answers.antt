use Rattle.ror_show_find_proofs.proofs.OwnRows.{own_rows}
use Rattle.ror_show_find_proofs.proofs.laws.own_rows_go.Goals as goal

pub returns : goal.returns
returns c = own_rows
