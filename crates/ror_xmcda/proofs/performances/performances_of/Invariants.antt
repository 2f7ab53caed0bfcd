use Rattle.std.proofs.Common.{◌≡◌, drop}
use Rattle.ror_text.specs.Reading.{read_all}
use Rattle.ror_xmcda.specs.Performances.{performances}
use Rattle.ror_xmcda.proofs.TreeLemmas.{seen}
use Rattle.ror_xmcda.proofs.performances.performances_of.Given as goal

abbrev pub invariant-loop-element : goal.invariant-loop-element
invariant-loop-element l = read_all (performances l.alternatives l.criteria) l.given (seen (drop l.element-index l.element-items)) ≡ read_all (performances l.alternatives l.criteria) l.initial.given (seen l.element-items)
