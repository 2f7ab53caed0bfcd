use Rattle.std.proofs.Common.{take}
use Rattle.ror_show_find_reasons.specs.Pairs.{AreCarriedPairs}
use Rattle.ror_show_find_reasons.proofs.carrying.find_pairs.Given as goal

abbrev pub invariant-loop-pair : goal.invariant-loop-pair
invariant-loop-pair l = AreCarriedPairs l.stood.table.now l.stood.list.now l.stood.answers.now (take l.pair-index l.pairs) l.found.items
