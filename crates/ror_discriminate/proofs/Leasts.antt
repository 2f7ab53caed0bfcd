-- The least of some numbers, and what a dot product with none below it comes to at least.
use Rattle.std.proofs.Common.{◌≡◌, ◌≢◌, ℕ, zero, suc, ◌+◌, ◌<◌, ◌≤◌, List, [], ◌∷◌, length, drop, get_or, ◌-◌, ℤ, pos, ◌*ℤ◌, ◌≤ℤ◌, true, false, refl, sym, ap, subst, ◌∙◌, arith, inl, inr, ◌⊎◌}
use Rattle.std.specs.Prelude.{Bool, cond, int_le, int_lt, if◌then◌else◌}
use Rattle.std.specs.List.{AllByRecursion}
use Rattle.std.proofs.lemmas.Bool.{cases_lt}
use Rattle.std.proofs.lemmas.Int.{by_lt_z}
use Rattle.std.specs.Int.{int_min}
use Rattle.ror_table.proofs.AmountLemmas.{lt_of_test, test_of_lt}
use Rattle.ror_system.specs.System.{IsNarrow}
use Rattle.ror_integers.specs.Vectors.{entry, dot, dots, total, NoneNegative}
use Rattle.ror_integers.proofs.Ring.{sums, product_comm, product-sum, product-zero, zero-product}
use Rattle.ror_integers.proofs.Order.{mul_le}
use Rattle.ror_integers.proofs.Rows.{length-dots}
use Rattle.ror_text.proofs.Everywhere.{all-by}
use Rattle.ror_value.proofs.Ends.{le_is, is_le}
use Rattle.ror_pivot.specs.Optimality.{least}
use Rattle.ror_discriminate.specs.Laws.{IsLeast}

-- ---- the lesser of two numbers
abbrev lesser : ℤ → ℤ → ℤ
lesser x y = if int_le x y then x else y

-- it is the one or the other, and above neither
record IsLesser (x y m : ℤ) : Type 0 where
  one_of : (m ≡ x) ⊎ (m ≡ y)
  not_above_first : m ≤ℤ x
  not_above_second : m ≤ℤ y

is_lesser : (x y : ℤ) → IsLesser x y (lesser x y)
is_lesser x y = at (int_le x y) refl
  where
    above : int_le x y ≡ false → y ≤ℤ x
    above test = by_lt_z y x (λ l. omega (arith, sums)) (λ l. absurd (let e = is_le x y l in cc))

    at : (b : Bool) → int_le x y ≡ b → IsLesser x y (lesser x y)
    at true test = rw test (let l = le_is x y test in record { one_of = inl refl; not_above_first = omega (arith, sums); not_above_second = l })
    at false test = rw test (let l = above test in record { one_of = inr refl; not_above_first = l; not_above_second = omega (arith, sums) })

-- ---- the least of a list
pub least-is_least : (x : ℤ) (xs : List ℤ) → IsLeast (least (x ∷ xs)) (x ∷ xs)
least-is_least x [] = record { place = 0; within = omega arith; there = refl; not_above = (omega (arith, sums), tt) }
least-is_least x (y ∷ xs) =
    let rest = least-is_least y xs in
    let both = is_lesser x (least (y ∷ xs)) in
    by_one (lesser x (least (y ∷ xs))) both rest
  where
    by_one : (m : ℤ) → IsLesser x (least (y ∷ xs)) m → IsLeast (least (y ∷ xs)) (y ∷ xs) → IsLeast m (x ∷ (y ∷ xs))
    by_one m both rest = at both.one_of
      where
        below : AllByRecursion (λ z. m ≤ℤ z) (y ∷ xs)
        below = all-by (λ z. least (y ∷ xs) ≤ℤ z) (λ z. m ≤ℤ z) (y ∷ xs) (λ z l. let k = both.not_above_second in omega (arith, sums)) rest.not_above

        at : (m ≡ x) ⊎ (m ≡ least (y ∷ xs)) → IsLeast m (x ∷ (y ∷ xs))
        at (inl e) = record { place = 0; within = omega arith; there = sym e; not_above = (both.not_above_first, below) }
        at (inr e) = record { place = suc rest.place; within = let l = rest.within in omega arith; there = rest.there ∙ sym e; not_above = (both.not_above_first, below) }

pub least-of_some : (xs : List ℤ) → xs ≢ [] → IsLeast (least xs) xs
least-of_some [] some = absurd (some refl)
least-of_some (x ∷ xs) some = least-is_least x xs

pub least-not_above : (xs : List ℤ) → AllByRecursion (λ x. least xs ≤ℤ x) xs
least-not_above [] = tt
least-not_above (x ∷ xs) = (least-is_least x xs).not_above

all-entry : (m : ℤ) (xs : List ℤ) (k : ℕ) → AllByRecursion (λ x. m ≤ℤ x) xs → k < length xs → m ≤ℤ entry xs k
all-entry m [] k all l = absurd (omega arith)
all-entry m (x ∷ xs) zero all l = all.0
all-entry m (x ∷ xs) (suc k) all l = all-entry m xs k all.1 (omega arith)

-- there is one least
pub one_least : (m n : ℤ) (xs : List ℤ) → IsLeast m xs → IsLeast n xs → m ≡ n
one_least m n xs p q =
    let a = all-entry m xs q.place p.not_above q.within in
    let b = all-entry n xs p.place q.not_above p.within in
    let e = p.there in
    let f = q.there in
    omega (arith, sums)

-- ---- a loop that keeps the least of the entries so far, the first one apart
pub record IsLeastSoFar (m : ℤ) (xs : List ℤ) (n : ℕ) : Type 0 where
  pub place : ℕ
  pub later : 1 ≤ place
  pub before : place < n
  pub there : entry xs place ≡ m
  pub not_above : (k : ℕ) → 1 ≤ k → k < n → m ≤ℤ entry xs k

pub least-start : (m : ℤ) (xs : List ℤ) → m ≡ entry xs 1 → IsLeastSoFar m xs 2
least-start m xs e = record {
  place = 1;
  later = omega arith;
  before = omega arith;
  there = sym e;
  not_above = λ k low l. let second : k ≡ 1 = omega arith in let f = ap (entry xs) second in omega (arith, sums);
}

pub least-more : (m x next : ℤ) (xs : List ℤ) (n : ℕ) → IsLeastSoFar m xs n → x ≡ entry xs n → ((next ≡ m) × (m ≤ℤ x)) ⊎ ((next ≡ x) × (x ≤ℤ m)) → 2 ≤ n → IsLeastSoFar next xs (n + 1)
least-more m x next xs n h e (inl same) two = record {
  place = h.place;
  later = h.later;
  before = let l = h.before in omega arith;
  there = h.there ∙ sym same.0;
  not_above = λ k low l. at k low l (cases_lt k n);
}
  where
    at : (k : ℕ) → 1 ≤ k → k < n + 1 → (k < n) ⊎ (n ≤ k) → next ≤ℤ entry xs k
    at k low l (inl less) = let a = h.not_above k low less in let b = same.0 in omega (arith, sums)
    at k low l (inr more) = let f : k ≡ n = omega arith in let g = ap (entry xs) f in let a = same.0 in let b = same.1 in omega (arith, sums)
least-more m x next xs n h e (inr new) two = record {
  place = n;
  later = omega arith;
  before = omega arith;
  there = sym e ∙ sym new.0;
  not_above = λ k low l. at k low l (cases_lt k n);
}
  where
    at : (k : ℕ) → 1 ≤ k → k < n + 1 → (k < n) ⊎ (n ≤ k) → next ≤ℤ entry xs k
    at k low l (inl less) = let a = h.not_above k low less in let b = new.0 in let c = new.1 in omega (arith, sums)
    at k low l (inr more) = let f : k ≡ n = omega arith in let g = ap (entry xs) f in let a = new.0 in omega (arith, sums)

-- what the minimum of two numbers is
pub minimum_of : (m x next : ℤ) → next ≡ int_min m x → ((next ≡ m) × (m ≤ℤ x)) ⊎ ((next ≡ x) × (x ≤ℤ m))
minimum_of m x next e = at (int_lt x m) refl
  where
    at : (b : Bool) → int_lt x m ≡ b → ((next ≡ m) × (m ≤ℤ x)) ⊎ ((next ≡ x) × (x ≤ℤ m))
    at true test =
        let f : int_min m x ≡ x = ap (λ (b : Bool). cond b x m) test in
        let l = lt_of_test x m test in
        inr (e ∙ f, omega (arith, sums))
    at false test =
        let f : int_min m x ≡ m = ap (λ (b : Bool). cond b x m) test in
        inl (e ∙ f, by_lt_z x m (λ l. absurd (let g = test_of_lt x m l in cc)) (λ l. l))

pub one_of_narrow : (m x next : ℤ) → ((next ≡ m) × (m ≤ℤ x)) ⊎ ((next ≡ x) × (x ≤ℤ m)) → IsNarrow m → IsNarrow x → IsNarrow next
one_of_narrow m x next (inl h) a b = subst IsNarrow (sym h.0) a
one_of_narrow m x next (inr h) a b = subst IsNarrow (sym h.0) b

entry-rest : (xs : List ℤ) (k : ℕ) → entry (drop 1 xs) k ≡ entry xs (k + 1)
entry-rest [] k = refl
entry-rest (x ∷ xs) k = let e : k + 1 ≡ suc k = omega arith in rw e refl

pub all_from_entries : (m : ℤ) (xs : List ℤ) → ((k : ℕ) → k < length xs → m ≤ℤ entry xs k) → AllByRecursion (λ x. m ≤ℤ x) xs
all_from_entries m [] each = tt
all_from_entries m (x ∷ xs) each = (each 0 (omega arith), all_from_entries m xs (λ k l. each (suc k) (omega arith)))

length-rest : (xs : List ℤ) → length (drop 1 xs) ≡ length xs - 1
length-rest [] = refl
length-rest (x ∷ xs) = omega arith

pub least-end : (m : ℤ) (xs : List ℤ) (n : ℕ) → IsLeastSoFar m xs n → n ≡ length xs → m ≡ least (drop 1 xs)
least-end m xs n h all =
    let count = length-rest xs in
    let a = h.later in
    let b = h.before in
    let found : IsLeast m (drop 1 xs) = record {
      place = h.place - 1;
      within = omega arith;
      there = let back : (h.place - 1) + 1 ≡ h.place = omega arith in entry-rest xs (h.place - 1) ∙ ap (entry xs) back ∙ h.there;
      not_above = all_from_entries m (drop 1 xs) (λ k l. let c = h.not_above (k + 1) (omega arith) (omega arith) in let e = entry-rest xs k in omega (arith, sums));
    } in
    one_least m (least (drop 1 xs)) (drop 1 xs) found (least-of_some (drop 1 xs) (λ none. let e = ap length none in omega arith))

pub dots-rest : (rows : List (List ℤ)) (v : List ℤ) → drop 1 (dots rows v) ≡ dots (drop 1 rows) v
dots-rest [] v = refl
dots-rest (row ∷ rows) v = refl

-- a row of some rows, as the code reads it
pub dot_of : (rows : List (List ℤ)) (v : List ℤ) (i : ℕ) (row : List ℤ) → i < length rows → row ≡ get_or rows i row → dot row v ≡ entry (dots rows v) i
dot_of [] v i row l e = absurd (omega arith)
dot_of (first ∷ rows) v zero row l e = ap (λ (r : List ℤ). dot r v) e
dot_of (first ∷ rows) v (suc i) row l e = dot_of rows v i row (omega arith) e

-- ---- dot products
pub dot-at_least : (m : ℤ) (zs ys : List ℤ) → NoneNegative zs → length zs ≤ length ys → AllByRecursion (λ y. m ≤ℤ y) ys → (m *ℤ total zs) ≤ℤ dot zs ys
dot-at_least m [] ys none l all = let e = product-zero m in omega (arith, sums)
dot-at_least m (z ∷ zs) [] none l all = absurd (omega arith)
dot-at_least m (z ∷ zs) (y ∷ ys) none l all =
    let rest = dot-at_least m zs ys none.1 (omega arith) all.1 in
    let here = mul_le z m y none.0 all.0 in
    omega (arith, sums, product-sum m z (total zs), product_comm m z)

-- where the first multiplier is 0, the other rows come to the least of them at least, times the sum of the multipliers
pub weighed_at_least : (rows : List (List ℤ)) (zs v : List ℤ) → length zs ≡ length rows → NoneNegative zs → entry zs 0 ≡ pos 0 → (least (dots (drop 1 rows) v) *ℤ total zs) ≤ℤ dot zs (dots rows v)
weighed_at_least [] [] v long none first = let e = product-zero (least (dots (drop 1 []) v)) in omega (arith, sums)
weighed_at_least [] (z ∷ zs) v long none first = absurd (omega arith)
weighed_at_least (row ∷ rows) [] v long none first = absurd (omega arith)
weighed_at_least (row ∷ rows) (z ∷ zs) v long none first =
    let m = least (dots rows v) in
    let rest = dot-at_least m zs (dots rows v) none.1 (omega (arith, length-dots rows v)) (least-not_above (dots rows v)) in
    let nothing = ap (λ (x : ℤ). x *ℤ dot row v) first ∙ zero-product (dot row v) in
    let same = product-sum m z (total zs) in
    let gone = ap (λ (x : ℤ). m *ℤ x) first ∙ product-zero m in
    omega (arith, sums)
