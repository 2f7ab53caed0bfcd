use Rattle.std.proofs.Common.{◌≡◌, drop}
use Rattle.ror_text.specs.Reading.{read_all}
use Rattle.ror_xmcda.specs.Affectations.{affectation}
use Rattle.ror_xmcda.proofs.TreeLemmas.{seen}
use Rattle.ror_xmcda.proofs.affectations.affectations_of.Given as goal

abbrev pub invariant-loop-element : goal.invariant-loop-element
invariant-loop-element l = read_all (affectation l.best_first l.alternatives l.categories) l.stated (seen (drop l.element-index l.element-items)) ≡ read_all (affectation l.best_first l.alternatives l.categories) l.initial.stated (seen l.element-items)
