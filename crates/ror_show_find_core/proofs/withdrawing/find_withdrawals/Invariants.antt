use Rattle.std.proofs.Common.{take}
use Rattle.ror_show_find_core.specs.Withdrawals.{AreWithdrawals}
use Rattle.ror_show_find_core.proofs.withdrawing.find_withdrawals.Given as goal

abbrev pub invariant-loop-number : goal.invariant-loop-number
invariant-loop-number l = AreWithdrawals l.stood.table.now l.stood.list.now l.claim.question l.claim.conclusion (take l.number-index l.numbers) l.found.items
