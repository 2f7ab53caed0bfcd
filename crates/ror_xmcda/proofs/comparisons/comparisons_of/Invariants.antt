use Rattle.std.proofs.Common.{◌≡◌, drop}
use Rattle.ror_text.specs.Reading.{read_all}
use Rattle.ror_xmcda.specs.Comparisons.{pair}
use Rattle.ror_xmcda.proofs.TreeLemmas.{seen}
use Rattle.ror_xmcda.proofs.comparisons.comparisons_of.Given as goal

abbrev pub invariant-loop-element : goal.invariant-loop-element
invariant-loop-element l = read_all (pair l.alternatives) l.stated (seen (drop l.element-index l.element-items)) ≡ read_all (pair l.alternatives) l.initial.stated (seen l.element-items)
