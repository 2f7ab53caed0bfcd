use Rattle.std.proofs.Common.{◌≡◌, drop}
use Rattle.ror_text.specs.Reading.{read_all}
use Rattle.ror_xmcda.specs.Categories.{category}
use Rattle.ror_xmcda.proofs.TreeLemmas.{seen}
use Rattle.ror_xmcda.proofs.categories.categories_of.Given as goal

abbrev pub invariant-loop-element : goal.invariant-loop-element
invariant-loop-element l = read_all category l.categories (seen (drop l.element-index l.element-items)) ≡ read_all category l.initial.categories (seen l.element-items)
