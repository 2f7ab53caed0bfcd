use Rattle.ror_show_find_relation.proofs.ArrowLemmas.{needed}
use Rattle.ror_show_find_relation.proofs.laws.arrows_are_needed.Goals as goal

pub returns : goal.returns
returns c r chosen transitive within closes a b arrow = let p = closes a b arrow.above in needed r chosen transitive within a b arrow p.0 p.1
