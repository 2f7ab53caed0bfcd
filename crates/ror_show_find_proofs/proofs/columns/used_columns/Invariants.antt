use Rattle.std.proofs.Common.{◌≡◌, map}
use Rattle.std.specs.List.{range_with_len}
use Rattle.ror_show_find_proofs.specs.Sums.{is_used}
use Rattle.ror_show_find_proofs.proofs.columns.used_columns.Given as goal

abbrev pub invariant-loop-j : goal.invariant-loop-j
invariant-loop-j l = l.used.items ≡ map (is_used l.system l.multipliers) (range_with_len 0 l.j)
