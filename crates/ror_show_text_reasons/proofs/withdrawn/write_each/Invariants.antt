use Rattle.std.proofs.Common.{◌≡◌, ◌++◌, take}
use Rattle.std.specs.List.{flat_map}
use Rattle.ror_show_text_reasons.specs.Withdrawn.{withdrawal_text}
use Rattle.ror_show_text_reasons.proofs.withdrawn.write_each.Given as goal

abbrev pub invariant-withdrawals : goal.invariant-withdrawals
invariant-withdrawals l = l.text.items ≡ l.fn.text.items ++ flat_map (withdrawal_text l.clashes) (take l.k l.withdrawals)
