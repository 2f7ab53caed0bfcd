use Rattle.std.proofs.Common.{◌<◌, length, sym, subst, ◌∙◌}
use Rattle.std.specs.List.{AllByRecursion}
use Rattle.ror_show_ground.specs.Lines.{has_answers}
use Rattle.ror_show_ground.proofs.Lists.{places_within}
use Rattle.ror_show_find_proofs.proofs.findings.find_functions.Goals as goal

pub find_at-requires : goal.find_at-requires
find_at-requires c =
    let kept = c.args.ground.now.kept.now in
    subst (AllByRecursion (λ n. n < length kept)) (sym (c.as_slice.ensures.value ∙ c.in_ok-places.ensures)) (places_within has_answers kept)
