-- Marginal values, values and the ideal value as they are summed, and their bounds.
use Rattle.std.proofs.Common.{◌≡◌, ℕ, zero, suc, ◌+◌, ◌-◌, ◌<◌, ◌≤◌, true, false, List, [], ◌∷◌, length, map, take, drop, get_or, ℤ, pos, ◌+ℤ◌, ◌*ℤ◌, ◌≤ℤ◌, ◌<ℤ◌, ◌^◌, unsigned_abs, Option, Some, None, MatchOption, FitsSigned, refl, ap, ap₂, sym, subst, ◌∙◌, arith}
use Rattle.std.specs.Int.{w64, w128}
use mir.Val.{to_z, of_z}
use Rattle.std.specs.List.{range_with_len}
use Rattle.std.proofs.lemmas.Int.{ints, fits_signed_from_abs, to_z-of_z}
use Rattle.std.proofs.lemmas.List.{get_or-drop, drop_all}
use Rattle.ror_integers.specs.Vectors.{dot, entry, total, NoneNegative}
use Rattle.ror_integers.proofs.Ring.{sums, product-zero}
use Rattle.ror_integers.proofs.Dots.{dot_more}
use Rattle.ror_integers.specs.Vectors.{ones}
use Rattle.ror_integers.proofs.Order.{product_nonnegative}
use Rattle.ror_integers.proofs.Signs.{NoneNegative-drop, NoneNegative-entry, NoneNegative-from_entries, NoneNegative-ones, dot_nonnegative}
use Rattle.ror_table.proofs.BlockLemmas.{length-tops, ones-le-tops}
use Rattle.ror_table.specs.Blocks.{tops}
use Rattle.ror_table.specs.Table.{DecisionTable, IsTable, is_linear, rank, steps, width, weight, offset, column, columns}
use Rattle.ror_system.specs.System.{IsNarrow}
use Rattle.ror_value.specs.ValueFaults.{IsAcceptedFunction}
use Rattle.ror_value.specs.Value.{Normalised, IsValueFunction, IsFunctionOf, steps_on, marginal, value, ideal_value}
use Rattle.ror_value.proofs.Values.{marginal-stepwise, marginal-linear, marginal_not_below, marginal_up_to_ideal, value_up_to_ideal, ideal-positive, positive-from_ideal}

total-take_more : (k : ℕ) (xs : List ℤ) → total (take (suc k) xs) ≡ total (take k xs) +ℤ entry xs k
total-take_more zero [] = omega (arith, sums)
total-take_more zero (x ∷ xs) = omega (arith, sums)
total-take_more (suc k) [] = omega (arith, sums)
total-take_more (suc k) (x ∷ xs) = let rest = total-take_more k xs in omega (arith, sums)

entry-take : (n k : ℕ) (xs : List ℤ) → k < n → entry (take n xs) k ≡ entry xs k
entry-take zero k xs l = absurd (omega arith)
entry-take (suc n) k [] l = refl
entry-take (suc n) zero (x ∷ xs) l = refl
entry-take (suc n) (suc k) (x ∷ xs) l = entry-take n k xs (omega arith)

-- between 0 and the most
pub record IsUpTo (most : ℤ) (z : ℤ) : Type 0 where
  pub not_below_zero : pos 0 ≤ℤ z
  pub not_above : z ≤ℤ most

pub IsUpTo-fits : (most z : ℤ) → IsNarrow most → IsUpTo most z → FitsSigned w128 z
IsUpTo-fits most z narrow h = fits_signed_from_abs w128 z (smaller z most (2 ^ 127) h.not_below_zero h.not_above narrow)
  where
    smaller : (a b : ℤ) (limit : ℕ) → pos 0 ≤ℤ a → a ≤ℤ b → unsigned_abs b < limit → unsigned_abs a < limit
    smaller a b limit p l n = omega (arith, ints)

-- ---- a marginal value
entry-steps_on : (t : DecisionTable) (w : List ℤ) (i k : ℕ) → k < width t i → entry (steps_on t w i) k ≡ entry w (column t i (k + 1))
entry-steps_on t w i k l = entry-take (width t i) k (drop (offset t i) w) l ∙ get_or-drop (offset t i) w k (pos 0) ∙ ap (entry w) (omega arith)

pub stepwise-width : (t : DecisionTable) (i : ℕ) → is_linear t i ≡ false → width t i ≡ steps t i
stepwise-width t i is = rw is refl

pub marginal-more : (t : DecisionTable) (w : List ℤ) (i k : ℕ) → is_linear t i ≡ false → k < steps t i → marginal t w i (k + 1) ≡ marginal t w i k +ℤ entry w (column t i (k + 1))
marginal-more t w i k is l =
    let wide = stepwise-width t i is in
    let xs : List ℤ = take (steps t i) (drop (offset t i) w) in
    let a = total-take_more k xs in
    let next : k + 1 ≡ suc k = omega arith in
    let b : entry xs k ≡ entry w (column t i (k + 1)) = ap (λ (n : ℕ). entry (take n (drop (offset t i) w)) k) (sym wide) ∙ entry-steps_on t w i k (omega (arith, wide, l)) in
    let d = ap (marginal t w i) next in
    let e = marginal-stepwise t w i (suc k) is in
    let f = marginal-stepwise t w i k is in
    omega (arith, sums, a, b, d, e, f)

pub marginal-within : (t : DecisionTable) (w : List ℤ) → IsTable t → NoneNegative w → (i k : ℕ) → i < length t.criteria → IsUpTo (ideal_value t w) (marginal t w i k)
marginal-within t w table h i k within = record {
  not_below_zero = marginal_not_below t w h i k;
  not_above = marginal_up_to_ideal t w table h i k within;
}

-- one step more, as the code reads it
pub marginal_step : (t : DecisionTable) (w xs : List ℤ) (i k at : ℕ) (sum x : ℤ) → is_linear t i ≡ false → k < steps t i → xs ≡ w → at ≡ column t i (k + 1) → sum ≡ marginal t w i k → x ≡ get_or xs at (pos 0) → sum +ℤ x ≡ marginal t w i (k + 1)
marginal_step t w xs i k at sum x is l e f g h =
    let more = marginal-more t w i k is l in
    let here : x ≡ entry w (column t i (k + 1)) = h ∙ ap (λ (ys : List ℤ). get_or ys at (pos 0)) e ∙ ap (entry w) f in
    omega (arith, sums)

-- on a linear criterion, as the code reads it
pub marginal_product : (t : DecisionTable) (w xs : List ℤ) (i k at : ℕ) (x y : ℤ) → is_linear t i ≡ true → 0 < width t i → xs ≡ w → at ≡ column t i 1 → x ≡ weight t i k → y ≡ get_or xs at (pos 0) → x *ℤ y ≡ marginal t w i k
marginal_product t w xs i k at x y is l e f g h =
    let here : y ≡ entry (steps_on t w i) 0 = h ∙ ap (λ (ys : List ℤ). get_or ys at (pos 0)) e ∙ ap (entry w) f ∙ sym (entry-steps_on t w i 0 l) in
    ap (λ (z : ℤ). z *ℤ y) g ∙ ap (λ (z : ℤ). weight t i k *ℤ z) here ∙ sym (marginal-linear t w i k is)

-- without columns there is nothing to gain
pub marginal_of_none : (t : DecisionTable) (w : List ℤ) (i k : ℕ) → is_linear t i ≡ true → width t i ≡ 0 → pos 0 ≡ marginal t w i k
marginal_of_none t w i k is none =
    let empty : entry (steps_on t w i) 0 ≡ pos 0 = ap (λ (n : ℕ). entry (take n (drop (offset t i) w)) 0) none in
    sym (marginal-linear t w i k is ∙ ap (λ (z : ℤ). weight t i k *ℤ z) empty ∙ product-zero (weight t i k))

-- ---- a value, by what is left to add from criterion i on
abbrev marginals_from : DecisionTable → List ℤ → ℕ → ℕ → ℕ → List ℤ
marginals_from t w a i n = map (λ j. marginal t w j (rank t a j)) (range_with_len i n)

pub record IsLeftOfValue (t : DecisionTable) (w : List ℤ) (a : ℕ) (sum : ℤ) (i : ℕ) : Type 0 where
  pub not_below_zero : pos 0 ≤ℤ sum
  pub left : sum +ℤ total (marginals_from t w a i (length t.criteria - i)) ≡ value t w a

pub IsLeftOfValue-start : (t : DecisionTable) (w : List ℤ) (a : ℕ) → IsLeftOfValue t w a (pos 0) 0
IsLeftOfValue-start t w a =
    let e : length t.criteria - 0 ≡ length t.criteria = omega arith in
    let all = ap (λ (n : ℕ). total (marginals_from t w a 0 n)) e in
    record { not_below_zero = omega (arith, sums); left = omega (arith, sums) }

marginals_nonnegative : (t : DecisionTable) (w : List ℤ) → NoneNegative w → (a i n : ℕ) → pos 0 ≤ℤ total (marginals_from t w a i n)
marginals_nonnegative t w h a i zero = omega (arith, sums)
marginals_nonnegative t w h a i (suc n) =
    let rest = marginals_nonnegative t w h a (i + 1) n in
    let here = marginal_not_below t w h i (rank t a i) in
    omega (arith, sums)

marginals_more : (t : DecisionTable) (w : List ℤ) (a i : ℕ) → i < length t.criteria → total (marginals_from t w a i (length t.criteria - i)) ≡ marginal t w i (rank t a i) +ℤ total (marginals_from t w a (i + 1) (length t.criteria - (i + 1)))
marginals_more t w a i l =
    let e : length t.criteria - i ≡ suc (length t.criteria - (i + 1)) = omega arith in
    ap (λ (n : ℕ). total (marginals_from t w a i n)) e

pub IsLeftOfValue-more : (t : DecisionTable) (w : List ℤ) (a : ℕ) (sum z : ℤ) (i : ℕ) → NoneNegative w → IsLeftOfValue t w a sum i → i < length t.criteria → z ≡ marginal t w i (rank t a i) → IsLeftOfValue t w a (sum +ℤ z) (i + 1)
IsLeftOfValue-more t w a sum z i n h l e =
    let low = h.not_below_zero in
    let b = h.left in
    let more = marginals_more t w a i l in
    let here = marginal_not_below t w n i (rank t a i) in
    record { not_below_zero = omega (arith, sums); left = omega (arith, sums) }

pub IsLeftOfValue-within : (t : DecisionTable) (w : List ℤ) (a : ℕ) (sum : ℤ) (i : ℕ) → IsTable t → NoneNegative w → IsLeftOfValue t w a sum i → IsUpTo (ideal_value t w) sum
IsLeftOfValue-within t w a sum i table n h =
    let b = h.left in
    let rest = marginals_nonnegative t w n a i (length t.criteria - i) in
    let most = value_up_to_ideal t w table n a in
    record { not_below_zero = h.not_below_zero; not_above = omega (arith, sums) }

pub IsLeftOfValue-end : (t : DecisionTable) (w : List ℤ) (a : ℕ) (sum : ℤ) (i : ℕ) → IsLeftOfValue t w a sum i → length t.criteria ≤ i → sum ≡ value t w a
IsLeftOfValue-end t w a sum i h l =
    let e : length t.criteria - i ≡ 0 = omega arith in
    let b = h.left in
    let none = ap (λ (n : ℕ). total (marginals_from t w a i n)) e in
    omega (arith, sums)

-- ---- the ideal value, by what is left to add from column c on
pub record IsLeftOfIdeal (t : DecisionTable) (w : List ℤ) (sum : ℤ) (c : ℕ) : Type 0 where
  pub not_below_zero : pos 0 ≤ℤ sum
  pub left : sum +ℤ dot (drop c (tops t)) (drop c w) ≡ ideal_value t w

pub IsLeftOfIdeal-start : (t : DecisionTable) (w : List ℤ) → IsLeftOfIdeal t w (pos 0) 0
IsLeftOfIdeal-start t w = record { not_below_zero = omega (arith, sums); left = omega (arith, sums) }

pub NoneNegative-tops : (t : DecisionTable) → IsTable t → NoneNegative (tops t)
NoneNegative-tops t table = NoneNegative-from_entries (tops t) (λ j within. at_least_none (entry (ones (columns t)) j) (entry (tops t) j) (NoneNegative-entry (ones (columns t)) j (NoneNegative-ones (columns t))) (ones-le-tops t table j))
  where
    at_least_none : (x y : ℤ) → pos 0 ≤ℤ x → x ≤ℤ y → pos 0 ≤ℤ y
    at_least_none x y low le = omega (arith, sums, low, le)

pub IsLeftOfIdeal-more : (t : DecisionTable) (w : List ℤ) (sum z : ℤ) (c : ℕ) → IsTable t → length w ≡ columns t → NoneNegative w → IsLeftOfIdeal t w sum c → c < columns t → z ≡ entry (tops t) c *ℤ entry w c
    → (pos 0 ≤ℤ z) × IsLeftOfIdeal t w (sum +ℤ z) (c + 1)
IsLeftOfIdeal-more t w sum z c table long n h within is =
    let low : pos 0 ≤ℤ (entry (tops t) c *ℤ entry w c) = product_nonnegative (entry (tops t) c) (entry w c) (NoneNegative-entry (tops t) c (NoneNegative-tops t table)) (NoneNegative-entry w c n) in
    let split = dot_more (tops t) w c (omega (arith, length-tops t, within)) (omega (arith, long, within)) in
    let before = h.left in
    let none = h.not_below_zero in
    (omega (arith, sums, low, is), record { not_below_zero = omega (arith, sums, low, is, none); left = omega (arith, sums, split, before, is) })

pub IsLeftOfIdeal-within : (t : DecisionTable) (w : List ℤ) (sum : ℤ) (c : ℕ) → IsTable t → NoneNegative w → IsLeftOfIdeal t w sum c → IsUpTo (ideal_value t w) sum
IsLeftOfIdeal-within t w sum c table n h =
    let rest = dot_nonnegative (drop c (tops t)) (drop c w) (NoneNegative-drop c (tops t) (NoneNegative-tops t table)) (NoneNegative-drop c w n) in
    let all = h.left in
    record { not_below_zero = h.not_below_zero; not_above = omega (arith, sums, rest, all) }

pub IsLeftOfIdeal-end : (t : DecisionTable) (w : List ℤ) (sum : ℤ) (c : ℕ) → IsLeftOfIdeal t w sum c → columns t ≤ c → sum ≡ ideal_value t w
IsLeftOfIdeal-end t w sum c h past =
    let none : drop c (tops t) ≡ [] = drop_all c (tops t) (omega (arith, length-tops t, past)) in
    let gone = ap (λ (xs : List ℤ). dot xs (drop c w)) none in
    let all = h.left in
    omega (arith, sums, gone, all)

-- a part that doesn't fit shows that the whole doesn't
pub wide_part : (most z : ℤ) → IsUpTo most z → (FitsSigned w128 z → ⊥) → IsNarrow most → ⊥
wide_part most z within wide narrow = wide (IsUpTo-fits most z narrow within)

-- the next product and the next sum, as the code reads them
pub ideal_step : (t : DecisionTable) (w : List ℤ) (sum z : ℤ) (c : ℕ) → IsTable t → length w ≡ columns t → NoneNegative w → IsLeftOfIdeal t w sum c → c < columns t → z ≡ entry (tops t) c *ℤ entry w c
    → IsUpTo (ideal_value t w) z × IsUpTo (ideal_value t w) (sum +ℤ z) × IsLeftOfIdeal t w (sum +ℤ z) (c + 1)
ideal_step t w sum z c table long n h within is =
    let more = IsLeftOfIdeal-more t w sum z c table long n h within is in
    let all = IsLeftOfIdeal-within t w (sum +ℤ z) (c + 1) table n more.1 in
    let low = h.not_below_zero in
    let most = all.not_above in
    let positive = more.0 in
    (record { not_below_zero = more.0; not_above = omega (arith, sums, low, most, positive) }, all, more.1)

pub ideal_fits : (t : DecisionTable) (w : List ℤ) (z : ℤ) → IsUpTo (ideal_value t w) z → IsNarrow (ideal_value t w) → FitsSigned w128 z
ideal_fits t w z within narrow = IsUpTo-fits (ideal_value t w) z narrow within

-- a marginal value of a function with its ideal value
pub marginal-up_to : (t : DecisionTable) (f : Normalised) (i k : ℕ) → IsFunctionOf t f → i < length t.criteria → IsUpTo f.total (marginal t f.steps i k)
marginal-up_to t f i k function within = subst (λ (most : ℤ). IsUpTo most (marginal t f.steps i k)) (sym function.ideal) (marginal-within t f.steps function.table function.function.none_negative i k within)

pub left-up_to : (t : DecisionTable) (f : Normalised) (a : ℕ) (sum : ℤ) (i : ℕ) → IsFunctionOf t f → IsLeftOfValue t f.steps a sum i → IsUpTo f.total sum
left-up_to t f a sum i function h = subst (λ (most : ℤ). IsUpTo most sum) (sym function.ideal) (IsLeftOfValue-within t f.steps a sum i function.table function.function.none_negative h)

-- what the code multiplies
pub product_read : (a b x y z : ℤ) → FitsSigned w64 x → FitsSigned w128 z → FitsSigned w128 y → z ≡ to_z w64 (of_z w64 x) → x ≡ a → y ≡ b → to_z w128 (of_z w128 z) *ℤ to_z w128 (of_z w128 y) ≡ a *ℤ b
product_read a b x y z f g h wide is at = ap₂ (λ (m n : ℤ). m *ℤ n) (to_z-of_z w128 z g ∙ wide ∙ to_z-of_z w64 x f ∙ is) (to_z-of_z w128 y h ∙ at)

-- a sum that fits and isn't below 0 is narrow
pub narrow_above : (z : ℤ) → pos 0 ≤ℤ z → FitsSigned w128 z → IsNarrow z
narrow_above z low fits = omega (arith, ints, low, fits)

pub ideal_reached : (t : DecisionTable) (w : List ℤ) (sum : ℤ) (c : ℕ) → IsLeftOfIdeal t w sum c → columns t ≤ c → FitsSigned w128 sum → (sum ≡ ideal_value t w) × IsNarrow sum
ideal_reached t w sum c h past fits = (IsLeftOfIdeal-end t w sum c h past, narrow_above sum h.not_below_zero fits)

pub kept_sum : (t : DecisionTable) (w : List ℤ) (sum z p q s : ℤ) (c : ℕ) → FitsSigned w128 z → p ≡ z → FitsSigned w128 (sum +ℤ q) → q ≡ to_z w128 (of_z w128 p) → s ≡ sum +ℤ q → IsLeftOfIdeal t w (sum +ℤ z) c → IsLeftOfIdeal t w (to_z w128 (of_z w128 s)) c
kept_sum t w sum z p q s c f e g h k left =
    let same : q ≡ z = h ∙ to_z-of_z w128 p (subst (FitsSigned w128) (sym e) f) ∙ e in
    let whole : s ≡ sum +ℤ z = k ∙ ap (λ (x : ℤ). sum +ℤ x) same in
    let fits : FitsSigned w128 s = subst (FitsSigned w128) (sym k) g in
    subst (λ (x : ℤ). IsLeftOfIdeal t w x c) (sym (to_z-of_z w128 s fits ∙ whole)) left

pub sum_fits : (sum z p : ℤ) → FitsSigned w128 z → p ≡ z → FitsSigned w128 (sum +ℤ z) → FitsSigned w128 (sum +ℤ to_z w128 (of_z w128 p))
sum_fits sum z p f e g = subst (λ (x : ℤ). FitsSigned w128 (sum +ℤ x)) (sym (to_z-of_z w128 p (subst (FitsSigned w128) (sym e) f) ∙ e)) g

-- ---- taking numbers as a function

-- what the sum of the numbers says
abbrev pub IsSummed : DecisionTable → List ℤ → Option ℤ → Type 0
IsSummed t w o = MatchOption o (((pos 0 <ℤ ideal_value t w) × IsNarrow (ideal_value t w)) → ⊥)
    (λ sum. (sum ≡ ideal_value t w) × (pos 0 <ℤ sum) × IsNarrow sum)

pub accepted_by : (t : DecisionTable) (w : List ℤ) (sum : ℤ) (o : Option ℤ) → IsTable t → length w ≡ columns t → NoneNegative w → IsSummed t w o → o ≡ Some sum → IsAcceptedFunction t w × (sum ≡ ideal_value t w) × IsNarrow sum
accepted_by t w sum None table long none summed is = absurd cc
accepted_by t w sum (Some x) table long none summed is =
    let same : x ≡ sum = cc in
    let positive : pos 0 <ℤ ideal_value t w = subst (λ (z : ℤ). pos 0 <ℤ z) summed.0 summed.1 in
    let narrow : IsNarrow (ideal_value t w) = subst IsNarrow summed.0 summed.2 in (
      record { function = record { one_for_each_column = long; none_negative = none; positive = positive-from_ideal t w (NoneNegative-tops t table) none positive }; total_within = narrow },
      sym same ∙ summed.0,
      subst IsNarrow same summed.2,
    )

pub function_by : (t : DecisionTable) (w xs : List ℤ) (sum : ℤ) → IsTable t → xs ≡ w → IsAcceptedFunction t w × (sum ≡ ideal_value t w) × IsNarrow sum → IsFunctionOf t (record { steps = xs; total = to_z w128 (of_z w128 sum) })
function_by t w xs sum table is accepted =
    let fits : FitsSigned w128 sum = narrow_fits sum accepted.2 in
    record {
      table = table;
      function = subst (IsValueFunction t) (sym is) accepted.0.function;
      ideal = to_z-of_z w128 sum fits ∙ accepted.1 ∙ ap (ideal_value t) (sym is);
    }
  where
    narrow_fits : (z : ℤ) → IsNarrow z → FitsSigned w128 z
    narrow_fits z narrow = fits_signed_from_abs w128 z narrow

pub refused_by : (t : DecisionTable) (w : List ℤ) (o : Option ℤ) → IsTable t → IsSummed t w o → o ≡ None → IsAcceptedFunction t w → ⊥
refused_by t w None table summed is accepted = summed (ideal-positive t w table accepted.function, accepted.total_within)
refused_by t w (Some x) table summed is accepted = absurd cc
