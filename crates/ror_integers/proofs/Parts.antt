-- Parts of rows: fronts and rests, rows end to end, zeros, and one row picked out by multipliers.
use Rattle.std.proofs.Common.{◌≡◌, ℕ, zero, suc, ◌<◌, ◌≤◌, List, [], ◌∷◌, ◌++◌, length, get_or, take, drop, replicate, ℤ, pos, negsuc, ◌+ℤ◌, ◌*ℤ◌, ◌≤ℤ◌, refl, ap, ap₂, sym, ◌∙◌, arith}
use Rattle.std.specs.List.{AllByRecursion}
use Rattle.ror_integers.specs.Vectors.{entry, dot, total, ones, sum_of_rows, scaled_row, row_difference, weighted, column, NoneNegative}
use Rattle.ror_integers.proofs.Ring.{sums, zero-product, one-product}
use Rattle.ror_integers.proofs.Dots.{dot-nil_right, dot-zeros_left}
use Rattle.ror_integers.proofs.Rows.{entry-row_difference, sum_of_rows-nil_right, sum_of_rows_comm, scaled_row-one, same_from_entries, entry-weighted, length-sum_of_rows, length-scaled_row}

-- ---- fronts and rests
pub take-sum_of_rows : (n : ℕ) (xs ys : List ℤ) → take n (sum_of_rows xs ys) ≡ sum_of_rows (take n xs) (take n ys)
take-sum_of_rows zero xs ys = refl
take-sum_of_rows (suc n) [] ys = refl
take-sum_of_rows (suc n) (x ∷ xs) [] = refl
take-sum_of_rows (suc n) (x ∷ xs) (y ∷ ys) = ap (λ (zs : List ℤ). (x +ℤ y) ∷ zs) (take-sum_of_rows n xs ys)

pub drop-sum_of_rows : (n : ℕ) (xs ys : List ℤ) → drop n (sum_of_rows xs ys) ≡ sum_of_rows (drop n xs) (drop n ys)
drop-sum_of_rows zero xs ys = refl
drop-sum_of_rows (suc n) [] ys = refl
drop-sum_of_rows (suc n) (x ∷ xs) [] = sym (sum_of_rows-nil_right (drop n xs))
drop-sum_of_rows (suc n) (x ∷ xs) (y ∷ ys) = drop-sum_of_rows n xs ys

pub take-scaled_row : (n : ℕ) (k : ℤ) (xs : List ℤ) → take n (scaled_row k xs) ≡ scaled_row k (take n xs)
take-scaled_row zero k xs = refl
take-scaled_row (suc n) k [] = refl
take-scaled_row (suc n) k (x ∷ xs) = ap (λ (zs : List ℤ). (k *ℤ x) ∷ zs) (take-scaled_row n k xs)

pub drop-scaled_row : (n : ℕ) (k : ℤ) (xs : List ℤ) → drop n (scaled_row k xs) ≡ scaled_row k (drop n xs)
drop-scaled_row zero k xs = refl
drop-scaled_row (suc n) k [] = refl
drop-scaled_row (suc n) k (x ∷ xs) = drop-scaled_row n k xs

pub take-row_difference : (n : ℕ) (xs ys : List ℤ) → take n (row_difference xs ys) ≡ row_difference (take n xs) (take n ys)
take-row_difference n xs ys = take-sum_of_rows n xs (scaled_row (negsuc 0) ys) ∙ ap (sum_of_rows (take n xs)) (take-scaled_row n (negsuc 0) ys)

pub drop-row_difference : (n : ℕ) (xs ys : List ℤ) → drop n (row_difference xs ys) ≡ row_difference (drop n xs) (drop n ys)
drop-row_difference n xs ys = drop-sum_of_rows n xs (scaled_row (negsuc 0) ys) ∙ ap (sum_of_rows (drop n xs)) (drop-scaled_row n (negsuc 0) ys)

pub dot-take-drop : (n : ℕ) (xs ys : List ℤ) → dot xs ys ≡ dot (take n xs) (take n ys) +ℤ dot (drop n xs) (drop n ys)
dot-take-drop zero xs ys = omega (arith, sums)
dot-take-drop (suc n) [] ys = refl
dot-take-drop (suc n) (x ∷ xs) [] = let h = dot-nil_right (drop n xs) in omega (arith, sums)
dot-take-drop (suc n) (x ∷ xs) (y ∷ ys) = let h = dot-take-drop n xs ys in omega (arith, sums)

pub total-take-drop : (n : ℕ) (xs : List ℤ) → total xs ≡ total (take n xs) +ℤ total (drop n xs)
total-take-drop zero xs = omega (arith, sums)
total-take-drop (suc n) [] = refl
total-take-drop (suc n) (x ∷ xs) = let h = total-take-drop n xs in omega (arith, sums)

pub total-take-le : (n m : ℕ) (xs : List ℤ) → n ≤ m → NoneNegative xs → total (take n xs) ≤ℤ total (take m xs)
total-take-le zero zero xs l h = omega (arith, sums)
total-take-le zero (suc m) [] l h = omega (arith, sums)
total-take-le zero (suc m) (x ∷ xs) l h =
    let p = h.0 in
    let q = total-take-le zero m xs (omega arith) h.1 in
    omega (arith, sums)
total-take-le (suc n) zero xs l h = absurd (omega arith)
total-take-le (suc n) (suc m) [] l h = omega (arith, sums)
total-take-le (suc n) (suc m) (x ∷ xs) l h = let q = total-take-le n m xs (omega arith) h.1 in omega (arith, sums)

-- ---- end to end
pub scaled_row-append : (k : ℤ) (xs ys : List ℤ) → scaled_row k (xs ++ ys) ≡ scaled_row k xs ++ scaled_row k ys
scaled_row-append k [] ys = refl
scaled_row-append k (x ∷ xs) ys = ap (λ (zs : List ℤ). (k *ℤ x) ∷ zs) (scaled_row-append k xs ys)

pub sum_of_rows-append : (xs us ys vs : List ℤ) → length xs ≡ length ys → sum_of_rows (xs ++ us) (ys ++ vs) ≡ sum_of_rows xs ys ++ sum_of_rows us vs
sum_of_rows-append [] us [] vs e = refl
sum_of_rows-append [] us (y ∷ ys) vs e = absurd (omega arith)
sum_of_rows-append (x ∷ xs) us [] vs e = absurd (omega arith)
sum_of_rows-append (x ∷ xs) us (y ∷ ys) vs e = ap (λ (zs : List ℤ). (x +ℤ y) ∷ zs) (sum_of_rows-append xs us ys vs (omega arith))

pub row_difference-append : (xs us ys vs : List ℤ) → length xs ≡ length ys → row_difference (xs ++ us) (ys ++ vs) ≡ row_difference xs ys ++ row_difference us vs
row_difference-append xs us ys vs e =
    ap (sum_of_rows (xs ++ us)) (scaled_row-append (negsuc 0) ys vs)
    ∙ sum_of_rows-append xs us (scaled_row (negsuc 0) ys) (scaled_row (negsuc 0) vs) (e ∙ sym (length-scaled_row (negsuc 0) ys))

-- of a vector whose length is not known the first list meets the front, the second the rest
pub dot-append_left : (xs ys w : List ℤ) → dot (xs ++ ys) w ≡ dot xs (take (length xs) w) +ℤ dot ys (drop (length xs) w)
dot-append_left [] ys w = omega (arith, sums)
dot-append_left (x ∷ xs) ys [] = let h = dot-nil_right ys in omega (arith, sums)
dot-append_left (x ∷ xs) ys (v ∷ w) = let h = dot-append_left xs ys w in omega (arith, sums)

-- n ones and then zeros pick out the sum of the first n entries
pub dot-ones_zeros : (n m : ℕ) (xs : List ℤ) → dot (ones n ++ replicate m (pos 0)) xs ≡ total (take n xs)
dot-ones_zeros zero m xs = dot-zeros_left m xs
dot-ones_zeros (suc n) m [] = refl
dot-ones_zeros (suc n) m (x ∷ xs) = let h = dot-ones_zeros n m xs in omega (arith, sums, one-product x)

-- ---- zeros
pub length-zeros : (n : ℕ) → length (replicate n (pos 0)) ≡ n
length-zeros zero = refl
length-zeros (suc n) = ap suc (length-zeros n)

pub entry-zeros : (n j : ℕ) → entry (replicate n (pos 0)) j ≡ pos 0
entry-zeros zero j = refl
entry-zeros (suc n) zero = refl
entry-zeros (suc n) (suc j) = entry-zeros n j

pub scaled_row-zero : (xs : List ℤ) → scaled_row (pos 0) xs ≡ replicate (length xs) (pos 0)
scaled_row-zero [] = refl
scaled_row-zero (x ∷ xs) = ap₂ (λ (z : ℤ) (zs : List ℤ). z ∷ zs) (zero-product x) (scaled_row-zero xs)

pub sum_of_rows-zeros : (n : ℕ) (xs : List ℤ) → n ≤ length xs → sum_of_rows (replicate n (pos 0)) xs ≡ xs
sum_of_rows-zeros zero xs h = refl
sum_of_rows-zeros (suc n) [] h = absurd (omega arith)
sum_of_rows-zeros (suc n) (x ∷ xs) h = ap₂ (λ (z : ℤ) (zs : List ℤ). z ∷ zs) (omega (arith, sums)) (sum_of_rows-zeros n xs (omega arith))

-- a list of zeros
pub zeros_from_entries : (xs : List ℤ) → ((j : ℕ) → entry xs j ≡ pos 0) → xs ≡ replicate (length xs) (pos 0)
zeros_from_entries xs h = same_from_entries xs (replicate (length xs) (pos 0)) (sym (length-zeros (length xs))) (λ j l. h j ∙ sym (entry-zeros (length xs) j))

pub same_from_zero_difference : (xs ys : List ℤ) → length xs ≡ length ys → ((j : ℕ) → entry (row_difference xs ys) j ≡ pos 0) → xs ≡ ys
same_from_zero_difference xs ys e h = same_from_entries xs ys e (λ j l. let d = h j in omega (arith, sums, entry-row_difference xs ys j))

pub row_difference-itself : (xs : List ℤ) (j : ℕ) → entry (row_difference xs xs) j ≡ pos 0
row_difference-itself xs j = omega (arith, sums, entry-row_difference xs xs j)

-- ---- one row picked out
weighted-zeros : (m n : ℕ) (rows : List (List ℤ)) → AllByRecursion (λ row. length row ≡ n) rows → length (weighted (replicate m (pos 0)) rows) ≤ n
weighted-zeros zero n rows h = omega arith
weighted-zeros (suc m) n [] h = omega arith
weighted-zeros (suc m) n (row ∷ rows) h =
    let e = h.0 in
    omega (arith, length-sum_of_rows (scaled_row (pos 0) row) (weighted (replicate m (pos 0)) rows), length-scaled_row (pos 0) row, weighted-zeros m n rows h.1)

weighted_zero_entries : (m : ℕ) (rows : List (List ℤ)) → weighted (replicate m (pos 0)) rows ≡ replicate (length (weighted (replicate m (pos 0)) rows)) (pos 0)
weighted_zero_entries m rows = zeros_from_entries (weighted (replicate m (pos 0)) rows) (λ j. entry-weighted (replicate m (pos 0)) rows j ∙ dot-zeros_left m (column rows j))

pub weighted-unit : (k m n : ℕ) (rows : List (List ℤ)) → AllByRecursion (λ row. length row ≡ n) rows → k < length rows → weighted (replicate k (pos 0) ++ (pos 1 ∷ replicate m (pos 0))) rows ≡ get_or rows k []
weighted-unit k m n [] h l = absurd (omega arith)
weighted-unit zero m n (row ∷ rows) h l =
    let e = h.0 in
    ap₂ sum_of_rows (scaled_row-one row) (weighted_zero_entries m rows)
    ∙ sum_of_rows_comm row (replicate (length (weighted (replicate m (pos 0)) rows)) (pos 0))
    ∙ sum_of_rows-zeros (length (weighted (replicate m (pos 0)) rows)) row (omega (arith, weighted-zeros m n rows h.1))
weighted-unit (suc k) m n (row ∷ rows) h l =
    let e = h.0 in
    let f = at n rows k h.1 (omega arith) in
    ap₂ sum_of_rows (scaled_row-zero row) (weighted-unit k m n rows h.1 (omega arith)) ∙ sum_of_rows-zeros (length row) (get_or rows k []) (omega arith)
  where
    at : (n : ℕ) (rows : List (List ℤ)) (k : ℕ) → AllByRecursion (λ row. length row ≡ n) rows → k < length rows → length (get_or rows k []) ≡ n
    at n [] k h l = absurd (omega arith)
    at n (row ∷ rows) zero h l = h.0
    at n (row ∷ rows) (suc k) h l = at n rows k h.1 (omega arith)
