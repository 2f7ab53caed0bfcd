use Rattle.std.proofs.Common.{refl}
use Rattle.ror_discriminate.proofs.Margins.{rows_margins, least_margins, no_rows}
use Rattle.ror_discriminate.proofs.laws.rows_are_margins.Goals as goal

pub returns : goal.returns
returns c = record { rows = rows_margins; least = least_margins; total = λ t w. refl; none = no_rows }
