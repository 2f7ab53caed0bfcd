use Rattle.ror_rows.proofs.Holding.{rows_hold_base, rows_hold_extra}
use Rattle.ror_rows.proofs.laws.rows_hold.Goals as goal

pub returns : goal.returns
returns c = record { base = rows_hold_base; with_extra = rows_hold_extra }
