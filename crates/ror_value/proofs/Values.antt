-- Marginal values and values as dot products, and their order.
use Rattle.std.proofs.Common.{◌≡◌, ℕ, zero, suc, ◌+◌, ◌-◌, ◌≤◌, ◌<◌, min, Bool, true, false, List, [], ◌∷◌, length, map, take, drop, replicate, ℤ, pos, ◌+ℤ◌, ◌*ℤ◌, ◌≤ℤ◌, ◌<ℤ◌, refl, ap, sym, ap₂, ◌∙◌, inl, inr, arith}
use Rattle.std.specs.List.{range_with_len, flat_map}
use Rattle.std.proofs.lemmas.Bool.{cases_lt}
use Rattle.std.proofs.lemmas.List.{drop-drop}
use Rattle.ror_integers.specs.Vectors.{dot, entry, total, ones, NoneNegative}
use Rattle.ror_integers.proofs.Ring.{sums, product_comm, zero-product, product-zero}
use Rattle.ror_integers.proofs.Dots.{dot_comm, dot-ones_all}
use Rattle.ror_integers.proofs.Order.{mul_le, product_nonnegative}
use Rattle.ror_integers.proofs.Solver.{ring3, ◌⊗◌}
use Rattle.ror_integers.proofs.Parts.{total-take-le, dot-ones_zeros, dot-append_left}
use Rattle.ror_integers.proofs.Signs.{NoneNegative-take, NoneNegative-drop, NoneNegative-entry, dot_le, dot_nonpositive, some_positive_or_none, total_positive}
use Rattle.ror_table.specs.Blocks.{block, tops}
use Rattle.ror_table.specs.Table.{DecisionTable, IsTable, is_linear, rank, steps, width, weight, offset, columns}
use Rattle.ror_table.proofs.RankLemmas.{offset-suc, performances_amounts}
use Rattle.ror_table.proofs.BlockLemmas.{length-block, weight-not_below_zero, weight-grows, ones-le-tops}
use Rattle.ror_table.proofs.WeightLemmas.{weight-first, weights_in_ratio, has_weights-parts}
use Rattle.ror_value.specs.Value.{IsValueFunction, steps_on, marginal, value, ideal_value}
use Rattle.ror_value.specs.Laws.{IsNormalisedAndMonotone, LinearBetweenEnds}

-- ---- on one criterion

-- a marginal value of a linear and of a stepwise criterion
pub marginal-linear : (t : DecisionTable) (w : List ℤ) (i r : ℕ) → is_linear t i ≡ true → marginal t w i r ≡ weight t i r *ℤ entry (steps_on t w i) 0
marginal-linear t w i r is = rw is refl

pub marginal-stepwise : (t : DecisionTable) (w : List ℤ) (i r : ℕ) → is_linear t i ≡ false → marginal t w i r ≡ total (take r (take (steps t i) (drop (offset t i) w)))
marginal-stepwise t w i r is = rw is refl

-- one number at most, times the first of as many
dot-replicate : (n : ℕ) (x : ℤ) (zs : List ℤ) → n ≤ 1 → dot (replicate n x) (take n zs) ≡ x *ℤ entry (take n zs) 0
dot-replicate zero x zs h = sym (product-zero x)
dot-replicate (suc zero) x [] h = sym (product-zero x)
dot-replicate (suc zero) x (z ∷ zs) h = omega (arith, sums)
dot-replicate (suc (suc n)) x zs h = absurd (omega arith)

-- of the first n entries, more than n of them are all
total-take-take : (n r : ℕ) (xs : List ℤ) → n ≤ r → total (take r (take n xs)) ≡ total (take n xs)
total-take-take zero zero xs h = refl
total-take-take zero (suc r) xs h = refl
total-take-take (suc n) zero xs h = absurd (omega arith)
total-take-take (suc n) (suc r) [] h = refl
total-take-take (suc n) (suc r) (x ∷ xs) h = ap (λ (y : ℤ). x +ℤ y) (total-take-take n r xs (omega arith))

total-take-min : (n r : ℕ) (xs : List ℤ) → total (take (min r n) (take n xs)) ≡ total (take r (take n xs))
total-take-min n r xs =
    elim (cases_lt n r) [
      | inl past ↦ let least : min r n ≡ n = omega arith in ap (λ (k : ℕ). total (take k (take n xs))) least ∙ total-take-take n n xs (omega arith) ∙ sym (total-take-take n r xs (omega arith))
      | inr within ↦ let least : min r n ≡ r = omega arith in ap (λ (k : ℕ). total (take k (take n xs))) least
    ]

marginal-dot-linear : (t : DecisionTable) (w : List ℤ) (i r : ℕ) → is_linear t i ≡ true → marginal t w i r ≡ dot (block t i r) (steps_on t w i)
marginal-dot-linear t w i r is = rw is (sym (dot-replicate (min (steps t i) 1) (weight t i r) (drop (offset t i) w) (omega arith)))

marginal-dot-stepwise : (t : DecisionTable) (w : List ℤ) (i r : ℕ) → is_linear t i ≡ false → marginal t w i r ≡ dot (block t i r) (steps_on t w i)
marginal-dot-stepwise t w i r is =
    rw is (sym (dot-ones_zeros (min r (steps t i)) (steps t i - r) (take (steps t i) (drop (offset t i) w)) ∙ total-take-min (steps t i) r (drop (offset t i) w)))

marginal-dot-by : (t : DecisionTable) (w : List ℤ) (i r : ℕ) (b : Bool) → is_linear t i ≡ b → marginal t w i r ≡ dot (block t i r) (steps_on t w i)
marginal-dot-by t w i r true is = marginal-dot-linear t w i r is
marginal-dot-by t w i r false is = marginal-dot-stepwise t w i r is

pub marginal-dot : (t : DecisionTable) (w : List ℤ) (i r : ℕ) → marginal t w i r ≡ dot (block t i r) (steps_on t w i)
marginal-dot t w i r = marginal-dot-by t w i r (is_linear t i) refl

pub NoneNegative-steps_on : (t : DecisionTable) (w : List ℤ) (i : ℕ) → NoneNegative w → NoneNegative (steps_on t w i)
NoneNegative-steps_on t w i h = NoneNegative-take (width t i) (drop (offset t i) w) (NoneNegative-drop (offset t i) w h)

-- the worst level is worth 0
marginal-zero-by : (t : DecisionTable) (w : List ℤ) (i : ℕ) (b : Bool) → is_linear t i ≡ b → marginal t w i 0 ≡ pos 0
marginal-zero-by t w i true is = marginal-linear t w i 0 is ∙ ap (λ (x : ℤ). x *ℤ entry (steps_on t w i) 0) (weight-first t i) ∙ zero-product (entry (steps_on t w i) 0)
marginal-zero-by t w i false is = marginal-stepwise t w i 0 is

pub marginal-zero : (t : DecisionTable) (w : List ℤ) (i : ℕ) → marginal t w i 0 ≡ pos 0
marginal-zero t w i = marginal-zero-by t w i (is_linear t i) refl

marginal_monotone-by : (t : DecisionTable) (w : List ℤ) → IsTable t → NoneNegative w → (i r s : ℕ) → r ≤ s → (b : Bool) → is_linear t i ≡ b → marginal t w i r ≤ℤ marginal t w i s
marginal_monotone-by t w table h i r s l true is =
    let x : ℤ = entry (steps_on t w i) 0 in
    let low : pos 0 ≤ℤ x = NoneNegative-entry (steps_on t w i) 0 (NoneNegative-steps_on t w i h) in
    let grows : (x *ℤ weight t i r) ≤ℤ (x *ℤ weight t i s) = mul_le x (weight t i r) (weight t i s) low (weight-grows t i r s table l) in
    let first = marginal-linear t w i r is ∙ product_comm (weight t i r) x in
    let second = marginal-linear t w i s is ∙ product_comm (weight t i s) x in
    omega (arith, sums, grows, first, second)
marginal_monotone-by t w table h i r s l false is =
    rw (marginal-stepwise t w i r is, marginal-stepwise t w i s is) (total-take-le r s (take (steps t i) (drop (offset t i) w)) l (NoneNegative-take (steps t i) (drop (offset t i) w) (NoneNegative-drop (offset t i) w h)))

pub marginal_monotone : (t : DecisionTable) (w : List ℤ) → IsTable t → NoneNegative w → (i r s : ℕ) → r ≤ s → marginal t w i r ≤ℤ marginal t w i s
marginal_monotone t w table h i r s l = marginal_monotone-by t w table h i r s l (is_linear t i) refl

marginal_not_below-by : (t : DecisionTable) (w : List ℤ) → NoneNegative w → (i r : ℕ) (b : Bool) → is_linear t i ≡ b → pos 0 ≤ℤ marginal t w i r
marginal_not_below-by t w h i r true is = rw (marginal-linear t w i r is) (product_nonnegative (weight t i r) (entry (steps_on t w i) 0) (weight-not_below_zero t i r) (NoneNegative-entry (steps_on t w i) 0 (NoneNegative-steps_on t w i h)))
marginal_not_below-by t w h i r false is =
    rw (marginal-stepwise t w i r is) (total-take-le 0 r (take (steps t i) (drop (offset t i) w)) (omega arith) (NoneNegative-take (steps t i) (drop (offset t i) w) (NoneNegative-drop (offset t i) w h)))

pub marginal_not_below : (t : DecisionTable) (w : List ℤ) → NoneNegative w → (i r : ℕ) → pos 0 ≤ℤ marginal t w i r
marginal_not_below t w h i r = marginal_not_below-by t w h i r (is_linear t i) refl

-- ---- on all criteria

-- the part of a vector from criterion i on, less the columns of i, is the part from the next criterion on
pub drop-steps : (t : DecisionTable) (w : List ℤ) (i : ℕ) → drop (width t i) (drop (offset t i) w) ≡ drop (offset t (i + 1)) w
drop-steps t w i = drop-drop (width t i) (offset t i) w ∙ ap (λ (n : ℕ). drop n w) (sym (offset-suc t i))

-- blocks, one for each of n criteria from criterion s on, against the part of a vector from s on
pub dot-blocks : (t : DecisionTable) (w : List ℤ) (r : ℕ → ℕ) (n s : ℕ)
    → dot (flat_map (λ i. block t i (r i)) (range_with_len s n)) (drop (offset t s) w) ≡ total (map (λ i. marginal t w i (r i)) (range_with_len s n))
dot-blocks t w r zero s = refl
dot-blocks t w r (suc n) s =
    let b = block t s (r s) in
    let rest = flat_map (λ i. block t i (r i)) (range_with_len (s + 1) n) in
    let part = drop (offset t s) w in
    let wide = length-block t s (r s) in
    let front : dot b (take (length b) part) ≡ marginal t w s (r s) = ap (λ (k : ℕ). dot b (take k part)) wide ∙ sym (marginal-dot t w s (r s)) in
    let back : dot rest (drop (length b) part) ≡ total (map (λ i. marginal t w i (r i)) (range_with_len (s + 1) n)) =
    ap (λ (k : ℕ). dot rest (drop k part)) wide ∙ ap (dot rest) (drop-steps t w s) ∙ dot-blocks t w r n (s + 1) in
    dot-append_left b rest part ∙ ap₂ (λ (x y : ℤ). x +ℤ y) front back

-- numbers that are at most others sum to at most their sum
total-map-le : (f g : ℕ → ℤ) → ((i : ℕ) → f i ≤ℤ g i) → (is : List ℕ) → total (map f is) ≤ℤ total (map g is)
total-map-le f g h [] = omega (arith, sums)
total-map-le f g h (i ∷ is) = let rest = total-map-le f g h is in let here = h i in omega (arith, sums)

total-map-zero : (is : List ℕ) → total (map (λ i. pos 0) is) ≡ pos 0
total-map-zero [] = refl
total-map-zero (i ∷ is) = let rest = total-map-zero is in omega (arith, sums)

total-map-not_below : (f : ℕ → ℤ) → ((i : ℕ) → pos 0 ≤ℤ f i) → (is : List ℕ) → pos 0 ≤ℤ total (map f is)
total-map-not_below f h is = let low = total-map-le (λ i. pos 0) f h is in let none = total-map-zero is in omega (arith, sums, low, none)

-- one of them is at most their sum
term-le-total : (f : ℕ → ℤ) → ((i : ℕ) → pos 0 ≤ℤ f i) → (n s k : ℕ) → s ≤ k → k < s + n → f k ≤ℤ total (map f (range_with_len s n))
term-le-total f h zero s k low high = absurd (omega (arith, low, high))
term-le-total f h (suc n) s k low high =
    let here = h s in
    let rest = total-map-not_below f h (range_with_len (s + 1) n) in
    elim (cases_lt s k) [
      | inl later ↦ let more = term-le-total f h n (s + 1) k (omega arith) (omega (arith, high)) in omega (arith, sums, more, here)
      | inr this ↦ let same : k ≡ s = omega arith in rw same (omega (arith, sums, rest))
    ]

-- the marginal values of the best levels sum to the ideal value
pub ideal-best : (t : DecisionTable) (w : List ℤ) → total (map (λ i. marginal t w i (steps t i)) (range_with_len 0 (length t.criteria))) ≡ ideal_value t w
ideal-best t w = sym (dot-blocks t w (steps t) (length t.criteria) 0)

-- the dot product of an alternative's blocks with a vector is its value
pub dot-values : (t : DecisionTable) (w : List ℤ) (a : ℕ) → dot (flat_map (λ i. block t i (rank t a i)) (range_with_len 0 (length t.criteria))) w ≡ value t w a
dot-values t w a = dot-blocks t w (rank t a) (length t.criteria) 0

-- past the best level a marginal value is that of the best
marginal_past-by : (t : DecisionTable) (w : List ℤ) (i r : ℕ) → steps t i ≤ r → (b : Bool) → is_linear t i ≡ b → marginal t w i r ≡ marginal t w i (steps t i)
marginal_past-by t w i r past true is =
    let same : min r (steps t i) ≡ min (steps t i) (steps t i) = omega arith in
    marginal-linear t w i r is ∙ ap (λ (x : ℤ). x *ℤ entry (steps_on t w i) 0) (weight-by t i r (steps t i) same) ∙ sym (marginal-linear t w i (steps t i) is)
  where
    weight-by : (t : DecisionTable) (i r s : ℕ) → min r (steps t i) ≡ min s (steps t i) → weight t i r ≡ weight t i s
    weight-by t i r s same = rw same refl
marginal_past-by t w i r past false is =
    marginal-stepwise t w i r is ∙ total-take-take (steps t i) r (drop (offset t i) w) past ∙ sym (total-take-take (steps t i) (steps t i) (drop (offset t i) w) (omega arith)) ∙ sym (marginal-stepwise t w i (steps t i) is)

marginal_up_to_best : (t : DecisionTable) (w : List ℤ) → IsTable t → NoneNegative w → (i r : ℕ) → marginal t w i r ≤ℤ marginal t w i (steps t i)
marginal_up_to_best t w table h i r =
    elim (cases_lt (steps t i) r) [
      | inl past ↦ let same = marginal_past-by t w i r (omega arith) (is_linear t i) refl in omega (arith, sums, same)
      | inr within ↦ marginal_monotone t w table h i r (steps t i) (omega arith)
    ]

-- a marginal value is at most the ideal value
pub marginal_up_to_ideal : (t : DecisionTable) (w : List ℤ) → IsTable t → NoneNegative w → (i r : ℕ) → i < length t.criteria → marginal t w i r ≤ℤ ideal_value t w
marginal_up_to_ideal t w table h i r within =
    let best = marginal_up_to_best t w table h i r in
    let one = term-le-total (λ j. marginal t w j (steps t j)) (λ j. marginal_not_below t w h j (steps t j)) (length t.criteria) 0 i (omega arith) (omega (arith, within)) in
    let all = ideal-best t w in
    omega (arith, sums, best, one, all)

pub ideal-positive : (t : DecisionTable) (w : List ℤ) → IsTable t → IsValueFunction t w → pos 0 <ℤ ideal_value t w
ideal-positive t w table f =
    let all : dot (ones (columns t)) w ≡ total w = dot-ones_all (columns t) w (omega (arith, f.one_for_each_column)) in
    let more = dot_le (ones (columns t)) (tops t) w (ones-le-tops t table) f.none_negative in
    let positive = f.positive in
    omega (arith, sums, all, more, positive)

-- numbers whose ideal value is above 0 are not all 0
pub positive-from_ideal : (t : DecisionTable) (w : List ℤ) → NoneNegative (tops t) → NoneNegative w → pos 0 <ℤ ideal_value t w → pos 0 <ℤ total w
positive-from_ideal t w low none positive =
    elim (some_positive_or_none w) [
      | inl some ↦ total_positive w none some
      | inr all ↦ let most = dot_nonpositive w (tops t) all low in let same = dot_comm (tops t) w in absurd (omega (arith, sums, most, same, positive))
    ]

pub value_not_below : (t : DecisionTable) (w : List ℤ) → NoneNegative w → (a : ℕ) → pos 0 ≤ℤ value t w a
value_not_below t w h a = total-map-not_below (λ i. marginal t w i (rank t a i)) (λ i. marginal_not_below t w h i (rank t a i)) (range_with_len 0 (length t.criteria))

pub value_up_to_ideal : (t : DecisionTable) (w : List ℤ) → IsTable t → NoneNegative w → (a : ℕ) → value t w a ≤ℤ ideal_value t w
value_up_to_ideal t w table h a =
    let high = total-map-le (λ i. marginal t w i (rank t a i)) (λ i. marginal t w i (steps t i)) (λ i. marginal_up_to_best t w table h i (rank t a i)) (range_with_len 0 (length t.criteria)) in
    let all = ideal-best t w in
    omega (arith, sums, high, all)

pub normalised_and_monotone : (t : DecisionTable) (w : List ℤ) → IsTable t → IsValueFunction t w → IsNormalisedAndMonotone t w
normalised_and_monotone t w table f = record {
  zero_at_worst = marginal-zero t w;
  monotone = marginal_monotone t w table f.none_negative;
  ideal_at_best = ideal-best t w;
  positive_ideal = ideal-positive t w table f;
  not_below_zero = value_not_below t w f.none_negative;
  not_above_ideal = value_up_to_ideal t w table f.none_negative;
}

-- ---- a linear criterion

times_step : (x y a b s : ℤ) → x *ℤ a ≡ y *ℤ b → (x *ℤ s) *ℤ a ≡ (y *ℤ s) *ℤ b
times_step x y a b s h = moved x s a ∙ ap (λ (z : ℤ). z *ℤ s) h ∙ sym (moved y s b)
  where
    moved : (x s a : ℤ) → (x *ℤ s) *ℤ a ≡ (x *ℤ a) *ℤ s
    moved x s a = ring3 (λ x s a. (x ⊗ s) ⊗ a) (λ x s a. (x ⊗ a) ⊗ s) refl x s a

pub linear_between_ends : LinearBetweenEnds
linear_between_ends t w i r s table within has hr hs =
    let parts = has_weights-parts t i has in
    let ratio = weights_in_ratio t i r s (performances_amounts t i table.evaluated within) parts.1 hr hs in
    rw (marginal-linear t w i r parts.0, marginal-linear t w i s parts.0) (times_step (weight t i r) (weight t i s) _ _ (entry (steps_on t w i) 0) ratio)
