use Rattle.std.proofs.Common.{◌<◌, ℕ, List, length, sym, subst, ◌∙◌}
use Rattle.std.specs.List.{AllByRecursion, AllZip}
use Rattle.std.proofs.lemmas.Result.{IfOk-weaker}
use Rattle.ror_show_ground.specs.Grounds.{ground_of}
use Rattle.ror_show_ground.proofs.Lists.{places_within}
use Rattle.ror_show_find_reasons.specs.Lines.{is_explained, IsLineFound}
use Rattle.ror_show_find_reasons.proofs.Asking.{all_asked}
use Rattle.ror_show_find_reasons.proofs.lines.find_lines.Goals as goal

pub lines_at-requires-clause-within : goal.lines_at-requires-clause-within
lines_at-requires-clause-within c =
    let kept = c.args.ground.now.kept.now in
    subst (AllByRecursion (λ (n : ℕ). n < length kept)) (sym (c.as_slice.ensures.value ∙ c.in_ok-places.ensures)) (places_within is_explained kept)

pub returns-clause-found : goal.returns-clause-found
returns-clause-found c =
    let R = IsLineFound c.args.meant (ground_of c.args.ground.now) in
    IfOk-weaker c.lines_at.result _ _
    (λ found are. subst (λ (places : List ℕ). AllZip R places found) (c.as_slice.ensures.value ∙ c.in_ok-places.ensures) are)
    c.lines_at.ensures

pub returns-clause-asked : goal.returns-clause-asked
returns-clause-asked c =
    let R = IsLineFound c.args.meant (ground_of c.args.ground.now) in
    IfOk-weaker c.lines_at.result _ _
    (λ found are. all_asked c.args.meant (ground_of c.args.ground.now) found c.requires (subst (λ (places : List ℕ). AllZip R places found) (c.as_slice.ensures.value ∙ c.in_ok-places.ensures) are))
    c.lines_at.ensures
