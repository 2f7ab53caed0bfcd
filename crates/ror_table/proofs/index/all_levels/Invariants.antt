use Rattle.ror_table.proofs.IndexLemmas.{AreLevelsBefore}
use Rattle.ror_table.proofs.index.all_levels.Given as goal

abbrev pub invariant-loop-i : goal.invariant-loop-i
invariant-loop-i l = AreLevelsBefore l.draft l.i l.all.items
