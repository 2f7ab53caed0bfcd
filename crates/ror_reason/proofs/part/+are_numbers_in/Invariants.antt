use Rattle.std.proofs.Common.{length}
use Rattle.ror_reason.proofs.part.+are_numbers_in.Given as goal

abbrev pub decreases-are_numbers_in : goal.decreases-are_numbers_in
decreases-are_numbers_in l = length l.list.now
