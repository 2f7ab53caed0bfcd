use Rattle.std.proofs.Common.{◌≡◌, drop}
use Rattle.ror_text.specs.Reading.{read_all}
use Rattle.ror_xmcda.specs.Criteria.{criterion}
use Rattle.ror_xmcda.proofs.TreeLemmas.{seen}
use Rattle.ror_xmcda.proofs.criteria.criteria_of.Given as goal

abbrev pub invariant-loop-element : goal.invariant-loop-element
invariant-loop-element l = read_all criterion l.criteria (seen (drop l.element-index l.element-items)) ≡ read_all criterion l.initial.criteria (seen l.element-items)
