use Rattle.std.proofs.Common.{rules, ap, ◌∙◌}
use borrow.Author.Tests.{tests}
use Rattle.std.specs.Prelude.{find, option_map}
use Rattle.std.proofs.lemmas.Iterator.{YieldsList-from_slice}
use Rattle.std.proofs.lemmas.Iterator.Search.{find_from_yields_List}
use Rattle.ror_elements.specs.declared.element.Element.{Element}
use Rattle.ror_elements.specs.Tree.{tree_of}
use Rattle.ror_xmcda.specs.Nodes.{is_named, first_named}
use Rattle.ror_xmcda.proofs.TreeLemmas.{find-map, option_map-twice}
use Rattle.ror_xmcda.proofs.nodes.first_named.Goals as goal

pub returns : goal.returns
unfolding first_named
returns c =
    let inner = c.children.result.now in
    let name = c.args.name.now in
    let all = c.iter.ensures.rest in
    option_map-twice tree_of (λ y. y.now) c.find.result
    ∙ ap (option_map tree_of) (find_from_yields_List (λ (x : Element). is_named name (tree_of x)) _ _ c.find.result c.find.ensures.ran (YieldsList-from_slice inner all) (λ x b q k. search (rules, tests)))
    ∙ find-map tree_of (is_named name) inner
    ∙ ap (find (is_named name)) c.children.ensures
