use Rattle.std.proofs.Common.{◌≡◌, ◌<◌, List, ℤ, get_or, length, arith, rules, subst, sym, ap, ◌∙◌, FitsSigned}
use Rattle.std.specs.Int.{w128}
use Rattle.std.proofs.lemmas.Int.{to_z-of_z}
use Rattle.ror_integers.specs.Vectors.{absolute_dot, dots}
use Rattle.ror_integers.proofs.Rows.{length-dots}
use Rattle.ror_text.proofs.Everywhere.{all-back}
use Rattle.ror_system.specs.System.{sum_limit, IsNarrow}
use Rattle.ror_system.proofs.Sums.{All-row}
use Rattle.ror_pivot.specs.Optimality.{least}
use Rattle.ror_discriminate.proofs.Leasts.{least-start, least-more, least-end, minimum_of, one_of_narrow, dots-rest, dot_of}
use Rattle.ror_discriminate.proofs.margin.least_value.Goals as goal

pub value_at-least-requires-clause-within : goal.value_at-least-requires-clause-within
value_at-least-requires-clause-within c =
    let s = c.args.s.now in
    let small = λ (row : List ℤ). absolute_dot row c.args.steps.now < sum_limit in
    let is = subst (λ (rows : List (List ℤ)). c.index-strict-1.result ≡ get_or rows 1 c.index-strict-1.result) c.strict-strict.ensures.value c.index-strict-1.is in
    All-row small s.strict 1 _ (all-back small s.weak s.strict c.requires.accepted.rows_within) c.requires.some_row is

pub loop-place-init : goal.loop-place-init
loop-place-init c =
    let s = c.args.s.now in
    let f : FitsSigned w128 c.value_at-least.result = search rules in
    let is = subst (λ (rows : List (List ℤ)). c.index-strict-1.result ≡ get_or rows 1 c.index-strict-1.result) c.strict-strict.ensures.value c.index-strict-1.is in
    let e = c.value_at-least.ensures.value ∙ dot_of s.strict c.args.steps.now 1 _ c.requires.some_row is in
    rw (to_z-of_z w128 _ f) (least-start _ (dots s.strict c.args.steps.now) e, c.value_at-least.ensures.narrow)

pub value_at-requires-clause-within : goal.value_at-requires-clause-within
value_at-requires-clause-within c =
    let s = c.args.s.now in
    let place = c.loop-place.place in
    let small = λ (row : List ℤ). absolute_dot row c.args.steps.now < sum_limit in
    let is = subst (λ (rows : List (List ℤ)). c.index-strict-place.result ≡ get_or rows place c.index-strict-place.result) c.strict-strict.ensures.value c.index-strict-place.is in
    let count = ap (λ (rows : List (List ℤ)). length rows) c.strict-strict.ensures.value in
    All-row small s.strict place _ (all-back small s.weak s.strict c.requires.accepted.rows_within) (omega (arith, c.loop-place-test.true, count)) is

pub loop-place-preserved : goal.loop-place-preserved
loop-place-preserved c =
    let s = c.args.s.now in
    let place = c.loop-place.place in
    let values = dots s.strict c.args.steps.now in
    let f : FitsSigned w128 c.value_at.result = search rules in
    let g : FitsSigned w128 c.min-least.result = search rules in
    let is = subst (λ (rows : List (List ℤ)). c.index-strict-place.result ≡ get_or rows place c.index-strict-place.result) c.strict-strict.ensures.value c.index-strict-place.is in
    let count = ap (λ (rows : List (List ℤ)). length rows) c.strict-strict.ensures.value in
    let e = to_z-of_z w128 _ f ∙ c.value_at.ensures.value ∙ dot_of s.strict c.args.steps.now place _ (omega (arith, c.loop-place-test.true, count)) is in
    let chosen = minimum_of _ _ _ c.min-least.ensures.value in
    let narrow = subst IsNarrow (sym (to_z-of_z w128 _ f)) c.value_at.ensures.narrow in
    rw (to_z-of_z w128 _ g) (least-more _ _ _ values place c.loop-place.invariant.0 e chosen c.loop-place.auto.place, one_of_narrow _ _ _ chosen c.loop-place.invariant.1 narrow)

pub returns-clause-value : goal.returns-clause-value
returns-clause-value c =
    let s = c.args.s.now in
    let values = dots s.strict c.args.steps.now in
    let count = ap (λ (rows : List (List ℤ)). length rows) c.strict-strict.ensures.value in
    least-end _ values c.loop-place.place c.loop-place.invariant.0 (omega (arith, c.loop-place-test.false, c.loop-place.auto.place-end, count, length-dots s.strict c.args.steps.now)) ∙ ap least (dots-rest s.strict c.args.steps.now)
