use Rattle.std.proofs.Common.{◌≡◌}
use Rattle.ror_bench.specs.Generated.{seed_after}
use Rattle.ror_bench.proofs.GeneratedTable.{row_before}
use Rattle.ror_bench.proofs.generated.generated_row.Given as goal

abbrev pub invariant-loop-i : goal.invariant-loop-i
invariant-loop-i l = record {
  row : l.row.items ≡ row_before l.initial.draws.seed l.a l.i;
  seed : l.draws.seed ≡ seed_after l.initial.draws.seed l.i;
}
