use Rattle.std.proofs.Common.{rules, ap, ◌∙◌}
use borrow.Author.Tests.{tests}
use Rattle.std.specs.Prelude.{filter}
use Rattle.std.proofs.lemmas.Iterator.{YieldsList-from_slice}
use Rattle.std.proofs.lemmas.Iterator.Consumers.{map_from_collect, YieldsList-from_filter}
use Rattle.std.specs.Slice.Iter.{iter_rest}
use Rattle.ror_elements.specs.declared.element.Element.{Element}
use Rattle.ror_elements.specs.Tree.{tree_of}
use Rattle.ror_xmcda.specs.Nodes.{is_named, named}
use Rattle.ror_xmcda.proofs.TreeLemmas.{filter-map, seen_by}
use Rattle.ror_xmcda.proofs.nodes.named.Goals as goal

pub returns : goal.returns
unfolding named
returns c =
    let inner = c.children.result.now in
    let name = c.args.name.now in
    let all = c.iter.ensures.rest in
    let source = c.filter.ensures.source in
    let test = λ (x : Element). is_named name (tree_of x) in
    seen_by tree_of c.collect.result _ _
    (filter-map tree_of (is_named name) inner ∙ ap (filter (is_named name)) c.children.ensures)
    (map_from_collect _ c.collect.ensures.ran (YieldsList-from_filter {s = c.filter.result} _ test (YieldsList-from_slice inner (ap iter_rest source ∙ all)) c.filter.ensures.closure (λ x b q k. search (rules, tests))))
