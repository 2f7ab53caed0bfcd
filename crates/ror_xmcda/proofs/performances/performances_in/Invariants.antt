use Rattle.std.proofs.Common.{◌≡◌, drop}
use Rattle.ror_text.specs.Reading.{read_all}
use Rattle.ror_xmcda.specs.Performances.{performance}
use Rattle.ror_xmcda.proofs.TreeLemmas.{seen}
use Rattle.ror_xmcda.proofs.performances.performances_in.Given as goal

abbrev pub invariant-loop-child : goal.invariant-loop-child
invariant-loop-child l = read_all (performance l.criteria l.alternative) l.given (seen (drop l.child-index l.child-items)) ≡ read_all (performance l.criteria l.alternative) l.initial.given (seen l.child-items)
