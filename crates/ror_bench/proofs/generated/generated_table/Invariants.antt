use Rattle.std.proofs.Common.{◌≡◌, ◌*◌}
use Rattle.ror_bench.specs.Generated.{seed_after}
use Rattle.ror_bench.proofs.GeneratedTable.{table_before}
use Rattle.ror_bench.proofs.generated.generated_table.Given as goal

abbrev pub invariant-loop-a : goal.invariant-loop-a
invariant-loop-a l = record {
  made : l.draft ≡ table_before l.initial.draws.seed l.a;
  seed : l.draws.seed ≡ seed_after l.initial.draws.seed (4 * l.a);
}
