use Rattle.std.proofs.Common.{◌<◌, ℕ, List, length, sym, subst, ◌∙◌}
use Rattle.std.specs.List.{AllByRecursion, AllZip}
use Rattle.std.proofs.lemmas.Result.{IfOk-weaker}
use Rattle.ror_show_ground.specs.Grounds.{ground_of}
use Rattle.ror_show_ground.proofs.Lists.{places_within}
use Rattle.ror_show_find_whatif.specs.declared.outcome.Asks.TheVariants.{Relation}
use Rattle.ror_show_find_whatif.specs.Findings.{has_relation, IsWhatIf}
use Rattle.ror_show_find_whatif.proofs.relations.find_relation_whatifs.Goals as goal

pub whatifs_at-requires-clause-within : goal.whatifs_at-requires-clause-within
whatifs_at-requires-clause-within c =
    let kept = c.args.ground.now.kept.now in
    subst (AllByRecursion (λ (n : ℕ). n < length kept)) (sym (c.as_slice.ensures.value ∙ c.in_ok-places.ensures)) (places_within (has_relation c.args.ground.now.session.now) kept)

pub returns : goal.returns
returns c =
    let R = IsWhatIf Relation (ground_of c.args.ground.now) in
    IfOk-weaker c.whatifs_at.result _ _
    (λ found are. subst (λ (places : List ℕ). AllZip R places found) (c.as_slice.ensures.value ∙ c.in_ok-places.ensures) are)
    c.whatifs_at.ensures
