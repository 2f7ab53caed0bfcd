use Rattle.std.proofs.Common.{◌≡◌}
use Rattle.ror_show_text_whatif.specs.Rows.{most_below}
use Rattle.ror_show_text_whatif.proofs.rows.most_in.Given as goal

abbrev pub invariant-loop-k : goal.invariant-loop-k
invariant-loop-k l = l.most ≡ most_below l.rows l.k
