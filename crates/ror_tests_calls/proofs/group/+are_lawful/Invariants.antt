use Rattle.std.proofs.Common.{length}
use Rattle.ror_tests_calls.proofs.group.+are_lawful.Given as goal

abbrev pub decreases-are_lawful : goal.decreases-are_lawful
decreases-are_lawful l = length l.lists.now
