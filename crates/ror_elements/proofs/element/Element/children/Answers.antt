use Rattle.std.proofs.Common.{map, ap, ◌∙◌}
use Rattle.std.specs.Global.{Vec}
use Rattle.ror_elements.specs.declared.element.Element.{Element}
use Rattle.ror_elements.specs.declared.element.Said.{Said}
use Rattle.ror_elements.specs.Tree.{tree_of}
use Rattle.ror_elements.proofs.TreeLemmas.{inside_more}
use Rattle.ror_elements.proofs.element.Element.children.Goals as goal

pub returns-in-Some : goal.returns-in-Some
returns-in-Some c =
    ap (map tree_of) c.as_slice.ensures.value
    ∙ ap (λ (more : Said × Vec Element). map tree_of more.1.items) c.deref.ensures
    ∙ inside_more c.args.self.now c.in-Some.more c.in-Some.is
