-- Of functions that are closed under sums and multiples: where each one of them has a row of the first list at most 0 or a row of the second
-- list, and none has both, then they all have one of the same list.
use Rattle.std.proofs.Common.{◌≡◌, List, [], ◌∷◌, refl, sym, ap, subst, ◌∙◌, arith}
use Rattle.std.specs.Prelude.{ℤ, pos, ◌+ℤ◌, ◌-ℤ◌, ◌*ℤ◌, neg_ℤ, ◌≤ℤ◌, ◌<ℤ◌}
use Rattle.std.specs.List.{AllByRecursion}
use Rattle.ror_integers.specs.Vectors.{dot, sum_of_rows, scaled_row}
use Rattle.ror_integers.proofs.Dots.{dot-sum_of_rows_right, dot-scaled_row_right}
use Rattle.ror_integers.proofs.Order.{product_nonnegative, product_positive, mul_le, le_cases, le_of_lt}
use Rattle.ror_integers.proofs.Ring.{product_comm, negation-product, product-one, one-product, sums}
use Rattle.ror_text.proofs.Everywhere.{all-by}

-- ---- sums of multiples

abbrev pub mix : ℤ → ℤ → List ℤ → List ℤ → List ℤ
mix k l u v = sum_of_rows (scaled_row k u) (scaled_row l v)

pub dot-mix : (row u v : List ℤ) (k l : ℤ) → dot row (mix k l u v) ≡ (k *ℤ dot row u) +ℤ (l *ℤ dot row v)
dot-mix row u v k l =
    dot-sum_of_rows_right row (scaled_row k u) (scaled_row l v)
    ∙ ap (λ (z : ℤ). z +ℤ dot row (scaled_row l v)) (dot-scaled_row_right k row u)
    ∙ ap (λ (z : ℤ). (k *ℤ dot row u) +ℤ z) (dot-scaled_row_right l row v)

abbrev pub Above : List (List ℤ) → List ℤ → Type 0
Above rows w = AllByRecursion (λ row. pos 0 <ℤ dot row w) rows

abbrev pub AtLeast : List (List ℤ) → List ℤ → Type 0
AtLeast rows w = AllByRecursion (λ row. pos 0 ≤ℤ dot row w) rows

pub weaker : (rows : List (List ℤ)) (w : List ℤ) → Above rows w → AtLeast rows w
weaker rows w above = all-by (λ row. pos 0 <ℤ dot row w) (λ row. pos 0 ≤ℤ dot row w) rows (λ row is. le_of_lt (pos 0) (dot row w) is) above

sum_above : (x y : ℤ) → pos 0 <ℤ x → pos 0 ≤ℤ y → pos 0 <ℤ (x +ℤ y)
sum_above x y first second = omega (arith, sums, first, second)

sum_least : (x y : ℤ) → pos 0 ≤ℤ x → pos 0 ≤ℤ y → pos 0 ≤ℤ (x +ℤ y)
sum_least x y first second = omega (arith, sums, first, second)

pub mix_above : (k l : ℤ) (u v : List ℤ) (rows : List (List ℤ)) → pos 0 <ℤ k → pos 0 ≤ℤ l → Above rows u → AtLeast rows v → Above rows (mix k l u v)
mix_above k l u v [] first second a b = tt
mix_above k l u v (row ∷ rows) first second a b = (
  subst (λ (z : ℤ). pos 0 <ℤ z) (sym (dot-mix row u v k l)) (sum_above (k *ℤ dot row u) (l *ℤ dot row v) (product_positive k (dot row u) first a.0) (product_nonnegative l (dot row v) second b.0)),
  mix_above k l u v rows first second a.1 b.1,
)

pub mix_least : (k l : ℤ) (u v : List ℤ) (rows : List (List ℤ)) → pos 0 ≤ℤ k → pos 0 ≤ℤ l → AtLeast rows u → AtLeast rows v → AtLeast rows (mix k l u v)
mix_least k l u v [] first second a b = tt
mix_least k l u v (row ∷ rows) first second a b = (
  subst (λ (z : ℤ). pos 0 ≤ℤ z) (sym (dot-mix row u v k l)) (sum_least (k *ℤ dot row u) (l *ℤ dot row v) (product_nonnegative k (dot row u) first a.0) (product_nonnegative l (dot row v) second b.0)),
  mix_least k l u v rows first second a.1 b.1,
)

-- ---- one function with all rows above 0

cancels : (x y : ℤ) → (x *ℤ y) +ℤ (neg_ℤ y *ℤ x) ≡ pos 0
cancels x y =
    let same = product_comm x y in
    let negative = negation-product y x in
    omega (arith, sums, same, negative)

record Lifted (C : List ℤ → Type 0) (lows done todo : List (List ℤ)) : Type 0 where
  pub steps : List ℤ
  pub closed : C steps
  pub low : Above lows steps
  pub of_done : AtLeast done steps
  pub of_todo : AtLeast todo steps

module _ (C : List ℤ → Type 0) (mixes : (k l : ℤ) (u v : List ℤ) → pos 0 <ℤ k → pos 0 ≤ℤ l → C u → C v → C (mix k l u v)) (lows : List (List ℤ)) where
  -- it and a row of the first list aren't at most 0 at once
  abbrev pub Against : List ℤ → Type 0
  Against row = (w : List ℤ) → C w → AllByRecursion (λ low. pos 0 <ℤ (dot low w +ℤ dot row w)) lows

  -- from one with all rows of the first list above 0, by another with all of the second, to one that has none of either below 0
  lift : (done todo : List (List ℤ)) (w u : List ℤ) → AllByRecursion Against todo → C w → C u → Above lows w → AtLeast done w → Above done u → Above todo u → Lifted C lows done todo
  lift done [] w u against cw cu low least up_done up_todo = record { steps = w; closed = cw; low = low; of_done = least; of_todo = tt }
  lift done (row ∷ rows) w u against cw cu low least up_done up_todo =
      let further : (v : List ℤ) → C v → Above lows v → AtLeast (row ∷ done) v → Lifted C lows (row ∷ done) rows = λ v cv low_v least_v. lift (row ∷ done) rows v u against.1 cv cu low_v least_v (up_todo.0, up_done) up_todo.1 in
      le_cases (pos 0) (dot row w) (λ here. with_it (further w cw low (here, least))) (lowered further)
    where
      with_it : Lifted C lows (row ∷ done) rows → Lifted C lows done (row ∷ rows)
      with_it rest = record { steps = rest.steps; closed = rest.closed; low = rest.low; of_done = rest.of_done.1; of_todo = (rest.of_done.0, rest.of_todo) }

      lowered : ((v : List ℤ) → C v → Above lows v → AtLeast (row ∷ done) v → Lifted C lows (row ∷ done) rows) → dot row w <ℤ pos 0 → Lifted C lows done (row ∷ rows)
      lowered further below =
          let k = dot row u in
          let l = neg_ℤ (dot row w) in
          let first : pos 0 <ℤ dot row u = up_todo.0 in
          let second : pos 0 ≤ℤ neg_ℤ (dot row w) = omega (arith, sums, below) in
          let v = mix k l w u in
          let cv = mixes k l w u first second cw cu in
          let zero_there : dot row (mix (dot row u) (neg_ℤ (dot row w)) w u) ≡ pos 0 = dot-mix row w u (dot row u) (neg_ℤ (dot row w)) ∙ cancels (dot row u) (dot row w) in
          let low_v : Above lows v = all-by (λ low_row. pos 0 <ℤ (dot low_row v +ℤ dot row v)) (λ low_row. pos 0 <ℤ dot low_row v) lows (λ low_row is. omega (arith, sums, is, zero_there)) (against.0 v cv) in
          let here : pos 0 ≤ℤ dot row (mix (dot row u) (neg_ℤ (dot row w)) w u) = omega (arith, sums, zero_there) in
          with_it (further v cv low_v (here, mix_least k l w u done (le_of_lt (pos 0) k first) second least (weaker done u up_done)))

record Filled (C : List ℤ → Type 0) (ups done todo : List (List ℤ)) : Type 0 where
  pub steps : List ℤ
  pub closed : C steps
  pub up : Above ups steps
  pub of_done : Above done steps
  pub of_todo : Above todo steps

raised_is : (x k y : ℤ) → k ≡ pos 1 -ℤ x → x <ℤ pos 1 → pos 1 ≤ℤ y → pos 0 <ℤ ((pos 1 *ℤ x) +ℤ (k *ℤ y))
raised_is x k y is below from =
    let positive : pos 0 ≤ℤ k = omega (arith, sums, is, below) in
    let most = mul_le k (pos 1) y positive from in
    let one = product-one k in
    let same = one-product x in
    omega (arith, sums, is, most, one, same)

module _ (C : List ℤ → Type 0) (mixes : (k l : ℤ) (u v : List ℤ) → pos 0 <ℤ k → pos 0 ≤ℤ l → C u → C v → C (mix k l u v)) (ups : List (List ℤ)) where
  -- from one with all rows of the second list above 0, by such a one, to one that has all of both
  fill : (done todo : List (List ℤ)) (v w : List ℤ) → C v → C w → Above done v → Above ups v → Above done w → Above todo w → AtLeast ups w → Filled C ups done todo
  fill done [] v w cv cw done_v up_v done_w todo_w up_w = record { steps = v; closed = cv; up = up_v; of_done = done_v; of_todo = tt }
  fill done (row ∷ rows) v w cv cw done_v up_v done_w todo_w up_w =
      let further : (x : List ℤ) → C x → Above (row ∷ done) x → Above ups x → Filled C ups (row ∷ done) rows = λ x cx done_x up_x. fill (row ∷ done) rows x w cx cw done_x up_x (todo_w.0, done_w) todo_w.1 up_w in
      le_cases (pos 1) (dot row v) (λ here. with_it (further v cv (omega (arith, sums, here), done_v) up_v)) (raised further)
    where
      with_it : Filled C ups (row ∷ done) rows → Filled C ups done (row ∷ rows)
      with_it rest = record { steps = rest.steps; closed = rest.closed; up = rest.up; of_done = rest.of_done.1; of_todo = (rest.of_done.0, rest.of_todo) }

      raised : ((x : List ℤ) → C x → Above (row ∷ done) x → Above ups x → Filled C ups (row ∷ done) rows) → dot row v <ℤ pos 1 → Filled C ups done (row ∷ rows)
      raised further below =
          let k = pos 1 -ℤ dot row v in
          let first : pos 0 <ℤ pos 1 = omega (arith, sums) in
          let second : pos 0 ≤ℤ (pos 1 -ℤ dot row v) = omega (arith, sums, below) in
          let from : pos 1 ≤ℤ dot row w = (let is = todo_w.0 in omega (arith, sums, is)) in
          let x = mix (pos 1) k v w in
          let here = subst (λ (z : ℤ). pos 0 <ℤ z) (sym (dot-mix row v w (pos 1) k)) (raised_is (dot row v) k (dot row w) refl below from) in
          with_it (further x (mixes (pos 1) k v w first second cv cw) (here, mix_above (pos 1) k v w done first second done_v (weaker done w done_w)) (mix_above (pos 1) k v w ups first second up_v up_w))

-- where none has all rows of both lists above 0, and none has one of each at most 0, not both lists have a function with all theirs above 0
pub one_side : (C : List ℤ → Type 0) → ((k l : ℤ) (u v : List ℤ) → pos 0 <ℤ k → pos 0 ≤ℤ l → C u → C v → C (mix k l u v)) → (lows ups : List (List ℤ)) → ((w : List ℤ) → C w → AllByRecursion (λ row. AllByRecursion (λ low. pos 0 <ℤ (dot low w +ℤ dot row w)) lows) ups) → ((w : List ℤ) → C w → Above lows w → Above ups w → ⊥) → (u w : List ℤ) → C u → C w → Above ups u → Above lows w → ⊥
one_side C mixes lows ups against none u w cu cw up low =
    let lifted = lift C mixes lows [] ups w u (each ups against) cw cu low tt tt up in
    let filled = fill C mixes ups [] lows u lifted.steps cu lifted.closed tt up tt lifted.low lifted.of_todo in
    none filled.steps filled.closed filled.of_todo filled.up
  where
    each : (rows : List (List ℤ)) → ((w : List ℤ) → C w → AllByRecursion (λ row. AllByRecursion (λ low. pos 0 <ℤ (dot low w +ℤ dot row w)) lows) rows) → AllByRecursion (Against C mixes lows) rows
    each [] all = tt
    each (row ∷ rows) all = (λ w cw. (all w cw).0, each rows (λ w cw. (all w cw).1))
