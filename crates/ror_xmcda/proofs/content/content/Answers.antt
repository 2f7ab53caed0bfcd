use Rattle.ror_elements.specs.Tree.{tree_of}
use Rattle.ror_xmcda.proofs.ContentLemmas.{listed_in}
use Rattle.ror_xmcda.proofs.content.content.Goals as goal

pub content_in-requires-clause-criteria : goal.content_in-requires-clause-criteria
content_in-requires-clause-criteria c = (listed_in (tree_of c.args.root.now) c.in_ok-listed.listed c.in_ok-listed.ensures).criteria

pub content_in-requires-clause-alternatives : goal.content_in-requires-clause-alternatives
content_in-requires-clause-alternatives c = (listed_in (tree_of c.args.root.now) c.in_ok-listed.listed c.in_ok-listed.ensures).alternatives

pub content_in-requires-clause-ranked : goal.content_in-requires-clause-ranked
content_in-requires-clause-ranked c = (listed_in (tree_of c.args.root.now) c.in_ok-listed.listed c.in_ok-listed.ensures).ranked
