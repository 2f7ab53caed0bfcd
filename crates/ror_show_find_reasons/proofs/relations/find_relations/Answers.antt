use Rattle.std.proofs.Common.{◌<◌, ℕ, List, length, sym, subst, ◌∙◌}
use Rattle.std.specs.List.{AllByRecursion, AllZip}
use Rattle.std.proofs.lemmas.Result.{IfOk-weaker}
use Rattle.ror_show_ground.specs.Grounds.{ground_of}
use Rattle.ror_show_ground.proofs.Lists.{places_within}
use Rattle.ror_show_find_reasons.specs.Pairs.{has_relation, IsRelationFound}
use Rattle.ror_show_find_reasons.proofs.relations.find_relations.Goals as goal

pub relations_at-requires-clause-within : goal.relations_at-requires-clause-within
relations_at-requires-clause-within c =
    let kept = c.args.ground.now.kept.now in
    subst (AllByRecursion (λ (n : ℕ). n < length kept)) (sym (c.as_slice.ensures.value ∙ c.in_ok-places.ensures)) (places_within (has_relation c.args.ground.now.session.now) kept)

pub returns : goal.returns
returns c =
    let R = IsRelationFound c.args.sought (ground_of c.args.ground.now) in
    IfOk-weaker c.relations_at.result _ _
    (λ found are. subst (λ (places : List ℕ). AllZip R places found) (c.as_slice.ensures.value ∙ c.in_ok-places.ensures) are)
    c.relations_at.ensures
