use Rattle.std.proofs.Common.{◌≡◌, ◌*◌}
use Rattle.ror_bench.specs.Generated.{seed_after, lines_from}
use Rattle.ror_bench.proofs.GeneratedSession.{statements_before}
use Rattle.ror_bench.proofs.generated.generated_statements.Given as goal

abbrev pub invariant-loop : goal.invariant-loop
invariant-loop l = record {
  made : l.lines.items ≡ lines_from 1 (statements_before l.table l.initial.draws.seed l.counter);
  seed : l.draws.seed ≡ seed_after l.initial.draws.seed (2 * l.counter);
}
