use Rattle.ror_elements.specs.Tree.{tree_of}
use Rattle.ror_elements.proofs.ChildLemmas.{popped_of}
use Rattle.ror_elements.proofs.open.Children.into_last.Goals as goal

pub returns : goal.returns
returns c = popped_of tree_of c.pop.result c.self.inside.elements.items c.pop.new.self.items _ _ c.args.self c.pop.ensures.items c.pop.ensures.cases c.self.inside.elements.ok.0 c.self.view_is
