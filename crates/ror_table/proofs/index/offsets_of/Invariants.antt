use Rattle.ror_table.proofs.IndexLemmas.{AreOffsetsBefore}
use Rattle.ror_table.proofs.index.offsets_of.Given as goal

abbrev pub invariant-loop-i : goal.invariant-loop-i
invariant-loop-i l = AreOffsetsBefore l.draft l.i l.offsets.items l.columns
