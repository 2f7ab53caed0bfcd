use Rattle.std.proofs.Common.{w64}
use Rattle.std.proofs.lemmas.Int.{to_z-of_z}
use Rattle.ror_table.proofs.AmountLemmas.{IsAmount-whole}
use Rattle.ror_table.proofs.amount.Amount.whole.Goals as goal

pub returns-clause-amount : goal.returns-clause-amount
returns-clause-amount c = rw (to_z-of_z w64 c.args.num c.ranges.num) (IsAmount-whole c.args.num c.requires)
