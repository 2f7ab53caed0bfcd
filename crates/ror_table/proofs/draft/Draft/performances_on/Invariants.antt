use Rattle.ror_table.proofs.RowLemmas.{AreRead}
use Rattle.ror_table.proofs.draft.Draft.performances_on.Given as goal

abbrev pub invariant-loop-row : goal.invariant-loop-row
invariant-loop-row l = AreRead l.rows l.i l.row-index l.performances.items
