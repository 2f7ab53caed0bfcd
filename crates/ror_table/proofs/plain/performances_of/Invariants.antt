use Rattle.std.proofs.Common.{map}
use Rattle.ror_table.proofs.PlainLemmas.{AreReadBefore}
use Rattle.ror_table.proofs.plain.performances_of.Given as goal

abbrev pub invariant-loop-word : goal.invariant-loop-word
invariant-loop-word l = AreReadBefore l.version (map (λ word. word.now) l.words) l.word-index l.performances.items
