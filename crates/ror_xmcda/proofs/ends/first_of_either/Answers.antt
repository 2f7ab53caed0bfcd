use Rattle.std.proofs.Common.{rules, ap, ◌∙◌}
use borrow.Author.Tests.{tests}
use Rattle.std.specs.Prelude.{find, option_map}
use Rattle.std.proofs.lemmas.Iterator.{YieldsList-from_slice}
use Rattle.std.proofs.lemmas.Iterator.Search.{find_from_yields_List}
use Rattle.ror_elements.specs.declared.element.Element.{Element}
use Rattle.ror_elements.specs.Tree.{tree_of}
use Rattle.ror_xmcda.specs.Ends.{is_either}
use Rattle.ror_xmcda.proofs.TreeLemmas.{find-map, option_map-twice}
use Rattle.ror_xmcda.proofs.ends.first_of_either.Goals as goal

pub returns : goal.returns
returns c =
    let inner = c.children.result.now in
    let name = c.args.name.now in
    let other = c.args.other.now in
    let all = c.iter.ensures.rest in
    option_map-twice tree_of (λ y. y.now) c.find.result
    ∙ ap (option_map tree_of) (find_from_yields_List (λ (x : Element). is_either name other (tree_of x)) _ _ c.find.result c.find.ensures.ran (YieldsList-from_slice inner all) (λ x b q k. search (rules, tests)))
    ∙ find-map tree_of (is_either name other) inner
    ∙ ap (find (is_either name other)) c.children.ensures
