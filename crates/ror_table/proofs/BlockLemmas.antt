-- The columns of a criterion at a rank, and of all criteria at the best levels.
use Rattle.std.proofs.Common.{◌≡◌, ℕ, zero, suc, ◌+◌, ◌-◌, ◌<◌, ◌≤◌, min, cond, Bool, true, false, leb, inl, inr, List, [], ◌∷◌, ◌++◌, length, take, get_or, replicate, All, sum_by, flat_map, ℤ, pos, ◌≤ℤ◌, ◌<ℤ◌, unsigned_abs, refl, sym, ap, ap₂, subst, ◌∙◌, arith, length-append}
use Rattle.std.specs.List.{AllByRecursion, range_with_len, AllWithin, list_any}
use Rattle.std.specs.List.Sorted.{IsNonDecreasingBy}
use Rattle.std.proofs.lemmas.Bool.{cases_Bool, cases_lt, leb-true, leb-false}
use Rattle.std.proofs.lemmas.Int.{ints}
use Rattle.std.proofs.lemmas.List.{length-replicate, get_or-replicate, get_or_append_left, get_or-append_right, get_or_default, get_or-map, length-map}
use Rattle.std.proofs.Math.ListN.{get_or-eq_default}
use Rattle.std.proofs.lemmas.List.Sums.{sum_by-cons}
use Rattle.std.proofs.lemmas.List.Concat.{length-flat_map, get_or-flat_map}
use Rattle.std.proofs.lemmas.List.FromFn.{length-range_with_len, get_or-range_with_len}
use Rattle.ror_integers.specs.Vectors.{ones, entry, NoneNegative}
use Rattle.ror_table.specs.Amounts.{IsAmount, whole}
use Rattle.ror_table.specs.Table.{DecisionTable, IsTable, Alternative, performance_of, is_linear, performances_on, steps, width, offset, columns, has_weights, has_wide_weights, has_wide_scale, weight}
use Rattle.ror_table.specs.Blocks.{block, tops}
use Rattle.ror_table.specs.Index.{AreOffsets}
use Rattle.ror_table.proofs.RankLemmas.{offset-suc, offset-le, performances_amounts}
use Rattle.ror_table.proofs.AmountLemmas.{IsAmount-whole}
use Rattle.ror_text.proofs.Everywhere.{all-append}
use Rattle.ror_integers.proofs.Parts.{entry-zeros}
use Rattle.ror_table.specs.declared.limits.TheConstants.{AMOUNT_LIMIT}
use Rattle.ror_table.proofs.WeightLemmas.{weight-first, weight-rises, weight-le, weight_small, has_weights-from, has_weights-none, has_wide_weights-none, list_any-more}
pub use Rattle.ror_table.proofs.WeightLemmas.{weight-not_below_zero}

length-of : (linear : Bool) (s r : ℕ) (w : ℤ) → length (cond linear (replicate (cond linear (min s 1) s) w) (ones (min r s) ++ replicate (s - r) (pos 0))) ≡ cond linear (min s 1) s
length-of true s r w = length-replicate (min s 1) w
length-of false s r w = omega (arith, length-append (ones (min r s)) (replicate (s - r) (pos 0)), length-replicate (min r s) (pos 1), length-replicate (s - r) (pos 0))

pub length-block : (t : DecisionTable) (i r : ℕ) → length (block t i r) ≡ width t i
length-block t i r = length-of (is_linear t i) (steps t i) r (weight t i r)

zero-of : (linear : Bool) (s : ℕ) (w : ℤ) → w ≡ pos 0 → cond linear (replicate (cond linear (min s 1) s) w) (ones (min 0 s) ++ replicate (s - 0) (pos 0)) ≡ replicate (cond linear (min s 1) s) (pos 0)
zero-of true s w e = ap (replicate (min s 1)) e
zero-of false s w e =
    let a : min 0 s ≡ 0 = omega arith in
    let b : s - 0 ≡ s = omega arith in
    ap₂ (λ (m n : ℕ). ones m ++ replicate n (pos 0)) a b

-- at the worst level each column is 0
pub block-zero : (t : DecisionTable) (i : ℕ) → block t i 0 ≡ replicate (width t i) (pos 0)
block-zero t i = zero-of (is_linear t i) (steps t i) (weight t i 0) (weight-first t i)

-- ---- entries
one_up_to : (s r k : ℕ) → k < r → k < s → entry (ones (min r s) ++ replicate (s - r) (pos 0)) k ≡ pos 1
one_up_to s r k h l =
    let within : k < length (ones (min r s)) = omega (arith, length-replicate (min r s) (pos 1)) in
    get_or_append_left (ones (min r s)) (replicate (s - r) (pos 0)) (pos 0) k within ∙ get_or-replicate (min r s) k (pos 1) (pos 0) (omega arith)

zero_from : (s r k : ℕ) → r ≤ k → k < s → entry (ones (min r s) ++ replicate (s - r) (pos 0)) k ≡ pos 0
zero_from s r k h l =
    get_or-append_right (ones (min r s)) (replicate (s - r) (pos 0)) (min r s) k (pos 0) (length-replicate (min r s) (pos 1)) (omega arith)
    ∙ get_or-replicate (s - r) (k - min r s) (pos 0) (pos 0) (omega arith)

linear-of : (linear : Bool) (s r k : ℕ) (w : ℤ) → linear ≡ true → k < cond linear (min s 1) s → entry (cond linear (replicate (cond linear (min s 1) s) w) (ones (min r s) ++ replicate (s - r) (pos 0))) k ≡ w
linear-of true s r k w e l = get_or-replicate (min s 1) k w (pos 0) l
linear-of false s r k w e l = absurd cc

above-of : (linear : Bool) (s r k : ℕ) (w : ℤ) → linear ≡ false → k < cond linear (min s 1) s → k < r → entry (cond linear (replicate (cond linear (min s 1) s) w) (ones (min r s) ++ replicate (s - r) (pos 0))) k ≡ pos 1
above-of true s r k w e l h = absurd cc
above-of false s r k w e l h = one_up_to s r k h l

below-of : (linear : Bool) (s r k : ℕ) (w : ℤ) → linear ≡ false → k < cond linear (min s 1) s → r ≤ k → entry (cond linear (replicate (cond linear (min s 1) s) w) (ones (min r s) ++ replicate (s - r) (pos 0))) k ≡ pos 0
below-of true s r k w e l h = absurd cc
below-of false s r k w e l h = zero_from s r k h l

pub block-linear : (t : DecisionTable) (i r k : ℕ) → is_linear t i ≡ true → k < width t i → entry (block t i r) k ≡ weight t i r
block-linear t i r k e l = linear-of (is_linear t i) (steps t i) r k (weight t i r) e l

pub block-above : (t : DecisionTable) (i r k : ℕ) → is_linear t i ≡ false → k < width t i → k < r → entry (block t i r) k ≡ pos 1
block-above t i r k e l h = above-of (is_linear t i) (steps t i) r k (weight t i r) e l h

pub block-below : (t : DecisionTable) (i r k : ℕ) → is_linear t i ≡ false → k < width t i → r ≤ k → entry (block t i r) k ≡ pos 0
block-below t i r k e l h = below-of (is_linear t i) (steps t i) r k (weight t i r) e l h

linear_width : (linear : Bool) (s k : ℕ) → linear ≡ true → k < cond linear (min s 1) s → 0 < s
linear_width true s k e l = omega arith
linear_width false s k e l = absurd cc

stepwise_width : (linear : Bool) (s k : ℕ) → linear ≡ false → k < cond linear (min s 1) s → k < s
stepwise_width true s k e l = absurd cc
stepwise_width false s k e l = l

-- a linear criterion with a column has weights
pub has_weights-width : (t : DecisionTable) (i k : ℕ) → is_linear t i ≡ true → k < width t i → has_weights t i ≡ true
has_weights-width t i k e l = has_weights-from t i e (linear_width (is_linear t i) (steps t i) k e l)

-- at the best level each column is above 0
pub top_positive : (t : DecisionTable) (i k : ℕ) → All IsAmount (performances_on t i) → k < width t i → pos 1 ≤ℤ entry (block t i (steps t i)) k
top_positive t i k all l =
    elim (cases_Bool (is_linear t i)) [
      | inl e ↦
          let some = linear_width (is_linear t i) (steps t i) k e l in
          let rise = weight-rises t i 0 (steps t i) all some (omega arith) in
          at_least_one (weight t i 0) (weight t i (steps t i)) (entry (block t i (steps t i)) k) (weight-first t i) rise (block-linear t i (steps t i) k e l)
      | inr e ↦ one_at (entry (block t i (steps t i)) k) (block-above t i (steps t i) k e l (stepwise_width (is_linear t i) (steps t i) k e l))
    ]
  where
    at_least_one : (a b x : ℤ) → a ≡ pos 0 → a <ℤ b → x ≡ b → pos 1 ≤ℤ x
    at_least_one a b x e l f = omega (arith, ints)

    one_at : (x : ℤ) → x ≡ pos 1 → pos 1 ≤ℤ x
    one_at x e = omega (arith, ints)

-- ---- all criteria
take_range : (a n i : ℕ) → i ≤ n → take i (range_with_len a n) ≡ range_with_len a i
take_range a n zero h = refl
take_range a zero (suc i) h = absurd (omega arith)
take_range a (suc n) (suc i) h = ap (λ (xs : List ℕ). a ∷ xs) (take_range (a + 1) n i (omega arith))

sum_by_same : (f g : ℕ → ℕ) → ((x : ℕ) → f x ≡ g x) → (xs : List ℕ) → sum_by f xs ≡ sum_by g xs
sum_by_same f g e [] = refl
sum_by_same f g e (x ∷ xs) = sum_by-cons f x xs ∙ ap₂ (λ (m n : ℕ). m + n) (e x) (sum_by_same f g e xs) ∙ sym (sum_by-cons g x xs)

pub entry-tops : (t : DecisionTable) (i k : ℕ) → i < length t.criteria → k < width t i → entry (tops t) (offset t i + k) ≡ entry (block t i (steps t i)) k
entry-tops t i k within l =
    let n = length t.criteria in
    let f : ℕ → List ℤ = λ j. block t j (steps t j) in
    let xs = range_with_len 0 n in
    let at : get_or xs i 0 ≡ i = omega (arith, get_or-range_with_len 0 n i 0 within) in
    let before : length (flat_map f (take i xs)) ≡ offset t i =
    length-flat_map f (take i xs) ∙ ap (sum_by (λ j. length (f j))) (take_range 0 n i (omega arith)) ∙ sum_by_same (λ j. length (f j)) (width t) (λ j. length-block t j (steps t j)) (range_with_len 0 i) in
    let inside : k < length (f (get_or xs i 0)) = subst (λ (j : ℕ). k < length (f j)) (sym at) (omega (arith, length-block t i (steps t i))) in
    ap (λ (m : ℕ). entry (tops t) (m + k)) (sym before)
    ∙ get_or-flat_map f xs i k 0 (pos 0) (omega (arith, length-range_with_len 0 n)) inside
    ∙ ap (λ (j : ℕ). entry (f j) k) at

-- ---- the criterion of a column
offset_within : (t : DecisionTable) (os : List ℕ) (all k d : ℕ) → AreOffsets t os all → k < length os → get_or os k d ≡ offset t k
offset_within t os all k d are within = get_or_default os k d 0 within ∙ are.each k (omega (arith, are.number))

pub offsets_rise : (t : DecisionTable) (os : List ℕ) (all : ℕ) → AreOffsets t os all → IsNonDecreasingBy (λ x. x) os
offsets_rise t os all are i j d le within =
    let rise : offset t i ≤ offset t (i + (j - i)) = offset-le t i (j - i) in
    let e : i + (j - i) ≡ j = omega arith in
    omega (arith, subst (λ (m : ℕ). offset t i ≤ offset t m) e rise, offset_within t os all i d are (omega arith), offset_within t os all j d are within)

pub criterion_found : (t : DecisionTable) (os : List ℕ) (all c p : ℕ) → IsTable t → AreOffsets t os all → c < columns t → p ≤ length os → AllWithin (λ y. leb y c ≡ true) os 0 p → AllWithin (λ y. leb y c ≡ false) os p (length os)
    → (1 ≤ p) × (offset t (p - 1) ≤ c) × (c < offset t (p - 1 + 1))
criterion_found t os all c zero table are within short before after =
    let some : 0 < length os = omega (arith, are.number, table.some_criterion) in
    absurd (omega (arith, leb-false _ c (after 0 0 (omega arith) some), offset_within t os all 0 0 are some, offset_first t))
  where
    offset_first : (t : DecisionTable) → offset t 0 ≡ 0
    offset_first t = refl
criterion_found t os all c (suc p) table are within short before after =
    let first : suc p - 1 ≡ p = omega arith in
    let next : suc p - 1 + 1 ≡ suc p = omega arith in
    let low : offset t p ≤ c = omega (arith, leb-true _ c (before p 0 (omega arith) (omega arith)), offset_within t os all p 0 are (omega arith)) in
    let high : c < offset t (suc p) = elim (cases_lt (suc p) (length os)) [
      | inl inside ↦ omega (arith, leb-false _ c (after (suc p) 0 (omega arith) inside), offset_within t os all (suc p) 0 are inside)
      | inr end ↦ let all-of : length t.criteria ≡ suc p = omega (arith, are.number) in subst (λ (m : ℕ). c < offset t m) all-of within
    ] in
    (omega arith, subst (λ (m : ℕ). offset t m ≤ c) (sym first) low, subst (λ (m : ℕ). c < offset t m) (sym next) high)

-- what the greatest value counts a column
pub top_read : (t : DecisionTable) (i c o : ℕ) → i < length t.criteria → o ≡ offset t i → offset t i ≤ c → c < offset t (i + 1) → (c - o < width t i) × (entry (tops t) c ≡ entry (block t i (steps t i)) (c - o))
top_read t i c o within is low high =
    let l : c - o < width t i = omega (arith, is, low, high, offset-suc t i) in
    let e : offset t i + (c - o) ≡ c = omega (arith, is, low) in
    (l, ap (entry (tops t)) (sym e) ∙ entry-tops t i (c - o) within l)

-- ---- a table
past_criteria : (t : DecisionTable) (i : ℕ) → IsTable t → length t.criteria ≤ i → All IsAmount (performances_on t i)
past_criteria t i table past k d within =
    let none : Alternative = record { id = []; performances = [] } in
    let inside : k < length t.alternatives = omega (arith, length-map t.alternatives (λ a. performance_of a i)) in
    let a = get_or t.alternatives k none in
    let short : length a.performances ≤ i = omega (arith, (table.evaluated k none inside).width) in
    subst IsAmount (sym (get_or-map (λ a. performance_of a i) t.alternatives k none d inside ∙ get_or-eq_default a.performances (whole (pos 0)) short)) (IsAmount-whole (pos 0) (omega arith))

-- the performances of a table are amounts, on each criterion and past the last
pub table_amounts : (t : DecisionTable) (i : ℕ) → IsTable t → All IsAmount (performances_on t i)
table_amounts t i table = elim (cases_lt i (length t.criteria)) [
  | inl within ↦ performances_amounts t i table.evaluated within
  | inr past ↦ past_criteria t i table past
]

pub weight-grows : (t : DecisionTable) (i r s : ℕ) → IsTable t → r ≤ s → weight t i r ≤ℤ weight t i s
weight-grows t i r s table l = weight-le t i r s (table_amounts t i table) l

-- no entry of a block is below 0
none_negative_copies : (n : ℕ) (x : ℤ) → pos 0 ≤ℤ x → NoneNegative (replicate n x)
none_negative_copies zero x h = tt
none_negative_copies (suc n) x h = (h, none_negative_copies n x h)

none_negative_joined : (xs ys : List ℤ) → NoneNegative xs → NoneNegative ys → NoneNegative (xs ++ ys)
none_negative_joined [] ys h k = k
none_negative_joined (x ∷ xs) ys h k = (h.0, none_negative_joined xs ys h.1 k)

none_negative-of : (linear : Bool) (s r : ℕ) (w : ℤ) → pos 0 ≤ℤ w → NoneNegative (cond linear (replicate (cond linear (min s 1) s) w) (ones (min r s) ++ replicate (s - r) (pos 0)))
none_negative-of true s r w h = none_negative_copies (min s 1) w h
none_negative-of false s r w h = none_negative_joined (ones (min r s)) (replicate (s - r) (pos 0)) (none_negative_copies (min r s) (pos 1) (omega (arith, ints))) (none_negative_copies (s - r) (pos 0) (omega (arith, ints)))

pub block-none_negative : (t : DecisionTable) (i r : ℕ) → NoneNegative (block t i r)
block-none_negative t i r = none_negative-of (is_linear t i) (steps t i) r (weight t i r) (weight-not_below_zero t i r)

-- each entry grows with the rank
pub entry-block-grows : (t : DecisionTable) (i r s k : ℕ) → IsTable t → r ≤ s → k < width t i → entry (block t i r) k ≤ℤ entry (block t i s) k
entry-block-grows t i r s k table le l =
    elim (cases_Bool (is_linear t i)) [
      | inl e ↦ between (entry (block t i r) k) (entry (block t i s) k) (weight t i r) (weight t i s) (block-linear t i r k e l) (block-linear t i s k e l) (weight-grows t i r s table le)
      | inr e ↦ elim (cases_lt k r) [
        | inl below ↦ between (entry (block t i r) k) (entry (block t i s) k) (pos 1) (pos 1) (block-above t i r k e l below) (block-above t i s k e l (omega arith)) (omega (arith, ints))
        | inr past ↦ elim (cases_lt k s) [
          | inl under ↦ between (entry (block t i r) k) (entry (block t i s) k) (pos 0) (pos 1) (block-below t i r k e l past) (block-above t i s k e l under) (omega (arith, ints))
          | inr over ↦ between (entry (block t i r) k) (entry (block t i s) k) (pos 0) (pos 0) (block-below t i r k e l past) (block-below t i s k e l over) (omega (arith, ints))
        ]
      ]
    ]
  where
    between : (x y a b : ℤ) → x ≡ a → y ≡ b → a ≤ℤ b → x ≤ℤ y
    between x y a b e f l = omega (arith, ints)

-- as many columns as the table has
pub length-tops : (t : DecisionTable) → length (tops t) ≡ columns t
length-tops t = length-flat_map (λ j. block t j (steps t j)) (range_with_len 0 (length t.criteria)) ∙ sum_by_same (λ j. length (block t j (steps t j))) (width t) (λ j. length-block t j (steps t j)) (range_with_len 0 (length t.criteria))

-- at the worst level nothing is counted
pub entry-block-zero : (t : DecisionTable) (i k : ℕ) → entry (block t i 0) k ≡ pos 0
entry-block-zero t i k = ap (λ (xs : List ℤ). entry xs k) (block-zero t i) ∙ entry-zeros (width t i) k

-- at the best levels each column counts at least once
at_best : (t : DecisionTable) → IsTable t → (n s m : ℕ) → s + n ≡ length t.criteria → entry (ones (length (flat_map (λ i. block t i (steps t i)) (range_with_len s n)))) m ≤ℤ entry (flat_map (λ i. block t i (steps t i)) (range_with_len s n)) m
at_best t table n s m e = entrywise (flat_map (λ i. block t i (steps t i)) (range_with_len s n)) (all_best t table n s) m
  where
    entrywise : (xs : List ℤ) → AllByRecursion (λ x. pos 1 ≤ℤ x) xs → (m : ℕ) → entry (ones (length xs)) m ≤ℤ entry xs m
    entrywise [] all m = omega (arith, ints)
    entrywise (x ∷ xs) all zero = all.0
    entrywise (x ∷ xs) all (suc m) = entrywise xs all.1 m

    block_best : (t : DecisionTable) → IsTable t → (i : ℕ) → AllByRecursion (λ x. pos 1 ≤ℤ x) (block t i (steps t i))
    block_best t table i = from_entries (block t i (steps t i)) (λ k within. top_positive t i k (table_amounts t i table) (omega (arith, within, length-block t i (steps t i))))
      where
        from_entries : (xs : List ℤ) → ((k : ℕ) → k < length xs → pos 1 ≤ℤ entry xs k) → AllByRecursion (λ x. pos 1 ≤ℤ x) xs
        from_entries [] each = tt
        from_entries (x ∷ xs) each = (each 0 (omega arith), from_entries xs (λ k within. each (suc k) (omega (arith, within))))

    all_best : (t : DecisionTable) → IsTable t → (n s : ℕ) → AllByRecursion (λ x. pos 1 ≤ℤ x) (flat_map (λ i. block t i (steps t i)) (range_with_len s n))
    all_best t table zero s = tt
    all_best t table (suc n) s = all-append (λ x. pos 1 ≤ℤ x) (block t s (steps t s)) (flat_map (λ i. block t i (steps t i)) (range_with_len (s + 1) n)) (block_best t table s) (all_best t table n (s + 1))

pub ones-le-tops : (t : DecisionTable) → IsTable t → (j : ℕ) → entry (ones (columns t)) j ≤ℤ entry (tops t) j
ones-le-tops t table j = subst (λ (n : ℕ). entry (ones n) j ≤ℤ entry (tops t) j) (length-tops t) (at_best t table (length t.criteria) 0 j (omega arith))

-- what is counted is less than an amount may be
pub entry-block-small : (t : DecisionTable) (i r k : ℕ) → IsTable t → i < length t.criteria → unsigned_abs (entry (block t i r) k) < AMOUNT_LIMIT
entry-block-small t i r k table within =
    elim (cases_lt k (width t i)) [
      | inl l ↦ elim (cases_Bool (is_linear t i)) [
        | inl e ↦ small_as (entry (block t i r) k) (weight t i r) (block-linear t i r k e l) (weight_small t i r table within (has_weights-width t i k e l))
        | inr e ↦ elim (cases_lt k r) [
          | inl below ↦ small_as (entry (block t i r) k) (pos 1) (block-above t i r k e l below) (omega arith)
          | inr past ↦ small_as (entry (block t i r) k) (pos 0) (block-below t i r k e l past) (omega arith)
        ]
      ]
      | inr out ↦ small_as (entry (block t i r) k) (pos 0) (get_or-eq_default (block t i r) (pos 0) (omega (arith, out, length-block t i r))) (omega arith)
    ]
  where
    small_as : (x y : ℤ) → x ≡ y → unsigned_abs y < AMOUNT_LIMIT → unsigned_abs x < AMOUNT_LIMIT
    small_as x y e l = rw e l

-- without linear criteria no scale is too wide
pub scale-of-stepwise : (t : DecisionTable) → ((i : ℕ) → is_linear t i ≡ false) → has_wide_scale t ≡ false
scale-of-stepwise t none = nowhere (length t.criteria)
  where
    nowhere : (n : ℕ) → list_any (has_wide_weights t) (range_with_len 0 n) ≡ false
    nowhere zero = refl
    nowhere (suc n) = let next : n + 1 ≡ suc n = omega arith in subst (λ (m : ℕ). list_any (has_wide_weights t) (range_with_len 0 m) ≡ false) next (list_any-more (has_wide_weights t) n (nowhere n) (has_wide_weights-none t n (has_weights-none t n (inl (none n)))))
