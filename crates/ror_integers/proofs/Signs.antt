-- Signs of entries, of dot products and of totals.
use Rattle.std.proofs.Common.{◌⊎◌, inl, inr, ℕ, zero, suc, ◌<◌, ◌≤◌, List, [], ◌∷◌, ◌++◌, length, take, drop, replicate, ℤ, pos, ◌≤ℤ◌, ◌<ℤ◌, arith}
use Rattle.std.specs.List.{AllByRecursion}
use Rattle.ror_integers.specs.Vectors.{entry, dot, total, ones, sum_of_rows, scaled_row, weighted, NoneNegative, SomePositive}
use Rattle.ror_integers.proofs.Ring.{sums, product_comm, product-zero}
use Rattle.ror_integers.proofs.Order.{product_nonnegative, product_positive, mul_le, le_cases}
use Rattle.ror_integers.proofs.Dots.{dot_comm}

pub NoneNegative-entry : (xs : List ℤ) (j : ℕ) → NoneNegative xs → pos 0 ≤ℤ entry xs j
NoneNegative-entry [] j h = omega (arith, sums)
NoneNegative-entry (x ∷ xs) zero h = h.0
NoneNegative-entry (x ∷ xs) (suc j) h = NoneNegative-entry xs j h.1

pub NoneNegative-from_entries : (xs : List ℤ) → ((j : ℕ) → j < length xs → pos 0 ≤ℤ entry xs j) → NoneNegative xs
NoneNegative-from_entries [] h = tt
NoneNegative-from_entries (x ∷ xs) h = (h 0 (omega arith), NoneNegative-from_entries xs (λ j l. h (suc j) (omega arith)))

pub NoneNegative-append : (xs ys : List ℤ) → NoneNegative xs → NoneNegative ys → NoneNegative (xs ++ ys)
NoneNegative-append [] ys h k = k
NoneNegative-append (x ∷ xs) ys h k = (h.0, NoneNegative-append xs ys h.1 k)

pub NoneNegative-append_left : (xs ys : List ℤ) → NoneNegative (xs ++ ys) → NoneNegative xs
NoneNegative-append_left [] ys h = tt
NoneNegative-append_left (x ∷ xs) ys h = (h.0, NoneNegative-append_left xs ys h.1)

pub NoneNegative-append_right : (xs ys : List ℤ) → NoneNegative (xs ++ ys) → NoneNegative ys
NoneNegative-append_right [] ys h = h
NoneNegative-append_right (x ∷ xs) ys h = NoneNegative-append_right xs ys h.1

pub NoneNegative-take : (n : ℕ) (xs : List ℤ) → NoneNegative xs → NoneNegative (take n xs)
NoneNegative-take zero xs h = tt
NoneNegative-take (suc n) [] h = tt
NoneNegative-take (suc n) (x ∷ xs) h = (h.0, NoneNegative-take n xs h.1)

pub NoneNegative-drop : (n : ℕ) (xs : List ℤ) → NoneNegative xs → NoneNegative (drop n xs)
NoneNegative-drop zero xs h = h
NoneNegative-drop (suc n) [] h = tt
NoneNegative-drop (suc n) (x ∷ xs) h = NoneNegative-drop n xs h.1

pub NoneNegative-sum_of_rows : (xs ys : List ℤ) → NoneNegative xs → NoneNegative ys → NoneNegative (sum_of_rows xs ys)
NoneNegative-sum_of_rows [] ys h k = k
NoneNegative-sum_of_rows (x ∷ xs) [] h k = h
NoneNegative-sum_of_rows (x ∷ xs) (y ∷ ys) h k = let p = h.0 in let q = k.0 in (omega (arith, sums), NoneNegative-sum_of_rows xs ys h.1 k.1)

pub NoneNegative-scaled_row : (k : ℤ) (xs : List ℤ) → pos 0 ≤ℤ k → NoneNegative xs → NoneNegative (scaled_row k xs)
NoneNegative-scaled_row k [] p h = tt
NoneNegative-scaled_row k (x ∷ xs) p h = (product_nonnegative k x p h.0, NoneNegative-scaled_row k xs p h.1)

pub NoneNegative-weighted : (ms : List ℤ) (rows : List (List ℤ)) → NoneNegative ms → AllByRecursion NoneNegative rows → NoneNegative (weighted ms rows)
NoneNegative-weighted [] rows h k = tt
NoneNegative-weighted (m ∷ ms) [] h k = tt
NoneNegative-weighted (m ∷ ms) (row ∷ rows) h k =
    NoneNegative-sum_of_rows (scaled_row m row) (weighted ms rows) (NoneNegative-scaled_row m row h.0 k.0) (NoneNegative-weighted ms rows h.1 k.1)

pub NoneNegative-ones : (n : ℕ) → NoneNegative (ones n)
NoneNegative-ones zero = tt
NoneNegative-ones (suc n) = (omega (arith, sums), NoneNegative-ones n)

pub NoneNegative-zeros : (n : ℕ) → NoneNegative (replicate n (pos 0))
NoneNegative-zeros zero = tt
NoneNegative-zeros (suc n) = (omega (arith, sums), NoneNegative-zeros n)

-- ---- dot products
pub dot_nonnegative : (xs ys : List ℤ) → NoneNegative xs → NoneNegative ys → pos 0 ≤ℤ dot xs ys
dot_nonnegative [] ys h k = omega (arith, sums)
dot_nonnegative (x ∷ xs) [] h k = omega (arith, sums)
dot_nonnegative (x ∷ xs) (y ∷ ys) h k =
    let p = product_nonnegative x y h.0 k.0 in
    let q = dot_nonnegative xs ys h.1 k.1 in
    omega (arith, sums)

-- a dot product grows with one argument if no entry of the other is below 0
pub dot_le : (xs ys zs : List ℤ) → ((j : ℕ) → entry xs j ≤ℤ entry ys j) → NoneNegative zs → dot xs zs ≤ℤ dot ys zs
dot_le [] [] zs h k = omega (arith, sums)
dot_le [] (y ∷ ys) [] h k = omega (arith, sums)
dot_le [] (y ∷ ys) (z ∷ zs) h k =
    let p = product_nonnegative y z (h 0) k.0 in
    let q = dot_le [] ys zs (λ j. h (suc j)) k.1 in
    omega (arith, sums)
dot_le (x ∷ xs) [] [] h k = omega (arith, sums)
dot_le (x ∷ xs) [] (z ∷ zs) h k =
    let p = mul_le z x (pos 0) k.0 (h 0) in
    let q = dot_le xs [] zs (λ j. h (suc j)) k.1 in
    omega (arith, sums, product_comm z x, product-zero z)
dot_le (x ∷ xs) (y ∷ ys) [] h k = omega (arith, sums)
dot_le (x ∷ xs) (y ∷ ys) (z ∷ zs) h k =
    let p = mul_le z x y k.0 (h 0) in
    let q = dot_le xs ys zs (λ j. h (suc j)) k.1 in
    omega (arith, sums, product_comm z x, product_comm z y)

pub dot_le_right : (xs ys zs : List ℤ) → ((j : ℕ) → entry ys j ≤ℤ entry zs j) → NoneNegative xs → dot xs ys ≤ℤ dot xs zs
dot_le_right xs ys zs h k =
    let e = dot_le ys zs xs h k in
    omega (arith, sums, dot_comm xs ys, dot_comm xs zs)

-- none above 0 against none below 0
pub dot_nonpositive : (xs ys : List ℤ) → ((j : ℕ) → entry xs j ≤ℤ pos 0) → NoneNegative ys → dot xs ys ≤ℤ pos 0
dot_nonpositive xs ys h k = dot_le xs [] ys h k

-- a place where both are above 0
pub dot_positive_at : (xs ys : List ℤ) (k : ℕ) → NoneNegative xs → NoneNegative ys → pos 0 <ℤ entry xs k → pos 0 <ℤ entry ys k → pos 0 <ℤ dot xs ys
dot_positive_at [] ys k h g p q = absurd p.lt
dot_positive_at (x ∷ xs) [] k h g p q = absurd q.lt
dot_positive_at (x ∷ xs) (y ∷ ys) zero h g p q =
    let r = product_positive x y p q in
    let s = dot_nonnegative xs ys h.1 g.1 in
    omega (arith, sums)
dot_positive_at (x ∷ xs) (y ∷ ys) (suc k) h g p q =
    let r = product_nonnegative x y h.0 g.0 in
    let s = dot_positive_at xs ys k h.1 g.1 p q in
    omega (arith, sums)

-- one list has a positive entry and the other is positive at each place of it
pub dot_positive : (xs ys : List ℤ) → NoneNegative xs → SomePositive xs → AllByRecursion (λ y. pos 0 <ℤ y) ys → length xs ≤ length ys → pos 0 <ℤ dot xs ys
dot_positive xs ys h s g l = dot_positive_at xs ys s.0 h (weaker ys g) s.2 (at ys s.0 g (omega arith))
  where
    weaker : (ys : List ℤ) → AllByRecursion (λ y. pos 0 <ℤ y) ys → NoneNegative ys
    weaker [] g = tt
    weaker (y ∷ ys) g = let p = g.0 in (omega (arith, sums), weaker ys g.1)

    at : (ys : List ℤ) (k : ℕ) → AllByRecursion (λ y. pos 0 <ℤ y) ys → k < length ys → pos 0 <ℤ entry ys k
    at [] k g l = absurd (omega arith)
    at (y ∷ ys) zero g l = g.0
    at (y ∷ ys) (suc k) g l = at ys k g.1 (omega arith)

-- ---- totals
pub total_nonnegative : (xs : List ℤ) → NoneNegative xs → pos 0 ≤ℤ total xs
total_nonnegative [] h = omega (arith, sums)
total_nonnegative (x ∷ xs) h = let p = h.0 in let q = total_nonnegative xs h.1 in omega (arith, sums)

pub entry-le-total : (xs : List ℤ) (j : ℕ) → NoneNegative xs → entry xs j ≤ℤ total xs
entry-le-total [] j h = omega (arith, sums)
entry-le-total (x ∷ xs) zero h = let q = total_nonnegative xs h.1 in omega (arith, sums)
entry-le-total (x ∷ xs) (suc j) h = let p = h.0 in let q = entry-le-total xs j h.1 in omega (arith, sums)

pub total_positive : (xs : List ℤ) → NoneNegative xs → SomePositive xs → pos 0 <ℤ total xs
total_positive xs h s = let p = entry-le-total xs s.0 h in let q = s.2 in omega (arith, sums)

-- a place above 0 is within the list
pub SomePositive-at : (xs : List ℤ) (k : ℕ) → pos 0 <ℤ entry xs k → SomePositive xs
SomePositive-at xs k p = (k, within xs k p, p)
  where
    within : (xs : List ℤ) (k : ℕ) → pos 0 <ℤ entry xs k → k < length xs
    within [] k p = absurd p.lt
    within (x ∷ xs) zero p = omega arith
    within (x ∷ xs) (suc k) p = let h = within xs k p in omega arith

pub SomePositive-cons : (x : ℤ) (xs : List ℤ) → SomePositive xs → SomePositive (x ∷ xs)
SomePositive-cons x xs s = SomePositive-at (x ∷ xs) (suc s.0) s.2

pub SomePositive-from_total : (xs : List ℤ) → pos 0 <ℤ total xs → SomePositive xs
SomePositive-from_total [] h = absurd h.lt
SomePositive-from_total (x ∷ xs) h =
    le_cases x (pos 0)
    (λ l. SomePositive-cons x xs (SomePositive-from_total xs (omega (arith, sums))))
    (λ l. SomePositive-at (x ∷ xs) 0 l)

-- no entry is above 0, or some one is
pub some_positive_or_none : (xs : List ℤ) → SomePositive xs ⊎ ((j : ℕ) → entry xs j ≤ℤ pos 0)
some_positive_or_none [] = inr (λ j. omega (arith, sums))
some_positive_or_none (x ∷ xs) = le_cases x (pos 0) (λ l. rest (some_positive_or_none xs) l) (λ l. inl (SomePositive-at (x ∷ xs) 0 l))
  where
    none : ((j : ℕ) → entry xs j ≤ℤ pos 0) → x ≤ℤ pos 0 → (j : ℕ) → entry (x ∷ xs) j ≤ℤ pos 0
    none h l zero = l
    none h l (suc j) = h j

    rest : SomePositive xs ⊎ ((j : ℕ) → entry xs j ≤ℤ pos 0) → x ≤ℤ pos 0 → SomePositive (x ∷ xs) ⊎ ((j : ℕ) → entry (x ∷ xs) j ≤ℤ pos 0)
    rest (inl s) l = inl (SomePositive-cons x xs s)
    rest (inr h) l = inr (none h l)
