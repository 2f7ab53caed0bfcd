-- Dot products are linear in both arguments; a loop's steps; the bound by absolute values.
use Rattle.std.proofs.Common.{◌≡◌, ℕ, zero, suc, ◌+◌, ◌<◌, ◌≤◌, List, [], ◌∷◌, ◌++◌, length, take, drop, replicate, ℤ, pos, negsuc, ◌+ℤ◌, ◌-ℤ◌, ◌*ℤ◌, unsigned_abs, refl, ap, sym, ◌∙◌, arith, add-one, drop-cons}
use Rattle.ror_integers.specs.Vectors.{entry, dot, absolute_dot, total, ones, sum_of_rows, scaled_row, row_difference}
use Rattle.ror_integers.proofs.Ring.{sums, product_comm, product_assoc, product-sum, sum-product, product-zero, zero-product, one-product, minus_one-product}

pub dot-nil_right : (xs : List ℤ) → dot xs [] ≡ pos 0
dot-nil_right [] = refl
dot-nil_right (x ∷ xs) = refl

pub dot_comm : (xs ys : List ℤ) → dot xs ys ≡ dot ys xs
dot_comm [] ys = sym (dot-nil_right ys)
dot_comm (x ∷ xs) [] = refl
dot_comm (x ∷ xs) (y ∷ ys) = let h = dot_comm xs ys in omega (arith, sums, product_comm x y)

pub dot-sum_of_rows_left : (xs ys zs : List ℤ) → dot (sum_of_rows xs ys) zs ≡ dot xs zs +ℤ dot ys zs
dot-sum_of_rows_left [] ys zs = omega (arith, sums)
dot-sum_of_rows_left (x ∷ xs) [] zs = omega (arith, sums)
dot-sum_of_rows_left (x ∷ xs) (y ∷ ys) [] = refl
dot-sum_of_rows_left (x ∷ xs) (y ∷ ys) (z ∷ zs) = let h = dot-sum_of_rows_left xs ys zs in omega (arith, sums, sum-product x y z)

pub dot-sum_of_rows_right : (xs ys zs : List ℤ) → dot xs (sum_of_rows ys zs) ≡ dot xs ys +ℤ dot xs zs
dot-sum_of_rows_right xs ys zs =
    let h = dot-sum_of_rows_left ys zs xs in
    omega (arith, sums, dot_comm xs (sum_of_rows ys zs), dot_comm xs ys, dot_comm xs zs)

pub dot-scaled_row_left : (k : ℤ) (xs ys : List ℤ) → dot (scaled_row k xs) ys ≡ k *ℤ dot xs ys
dot-scaled_row_left k [] ys = sym (product-zero k)
dot-scaled_row_left k (x ∷ xs) [] = sym (product-zero k)
dot-scaled_row_left k (x ∷ xs) (y ∷ ys) =
    let h = dot-scaled_row_left k xs ys in
    omega (arith, sums, product_assoc k x y, product-sum k (x *ℤ y) (dot xs ys))

pub dot-scaled_row_right : (k : ℤ) (xs ys : List ℤ) → dot xs (scaled_row k ys) ≡ k *ℤ dot xs ys
dot-scaled_row_right k xs ys = dot_comm xs (scaled_row k ys) ∙ dot-scaled_row_left k ys xs ∙ ap (λ (d : ℤ). k *ℤ d) (dot_comm ys xs)

pub dot-row_difference_left : (xs ys zs : List ℤ) → dot (row_difference xs ys) zs ≡ dot xs zs -ℤ dot ys zs
dot-row_difference_left xs ys zs =
    dot-sum_of_rows_left xs (scaled_row (negsuc 0) ys) zs ∙ ap (λ (d : ℤ). dot xs zs +ℤ d) (dot-scaled_row_left (negsuc 0) ys zs ∙ minus_one-product (dot ys zs))

pub dot-row_difference_right : (xs ys zs : List ℤ) → dot xs (row_difference ys zs) ≡ dot xs ys -ℤ dot xs zs
dot-row_difference_right xs ys zs =
    let h = dot-row_difference_left ys zs xs in
    omega (arith, sums, dot_comm xs (row_difference ys zs), dot_comm xs ys, dot_comm xs zs)

pub dot-append : (xs us ys vs : List ℤ) → length xs ≡ length ys → dot (xs ++ us) (ys ++ vs) ≡ dot xs ys +ℤ dot us vs
dot-append [] us [] vs e = omega (arith, sums)
dot-append [] us (y ∷ ys) vs e = absurd (omega arith)
dot-append (x ∷ xs) us [] vs e = absurd (omega arith)
dot-append (x ∷ xs) us (y ∷ ys) vs e = let h = dot-append xs us ys vs (omega arith) in omega (arith, sums)

pub dot-zeros_left : (n : ℕ) (xs : List ℤ) → dot (replicate n (pos 0)) xs ≡ pos 0
dot-zeros_left zero xs = refl
dot-zeros_left (suc n) [] = refl
dot-zeros_left (suc n) (x ∷ xs) = let h = dot-zeros_left n xs in omega (arith, sums, zero-product x)

pub dot-zeros_right : (n : ℕ) (xs : List ℤ) → dot xs (replicate n (pos 0)) ≡ pos 0
dot-zeros_right n xs = dot_comm xs (replicate n (pos 0)) ∙ dot-zeros_left n xs

-- ones pick a front out
pub dot-ones_left : (n : ℕ) (xs : List ℤ) → dot (ones n) xs ≡ total (take n xs)
dot-ones_left zero xs = refl
dot-ones_left (suc n) [] = refl
dot-ones_left (suc n) (x ∷ xs) = let h = dot-ones_left n xs in omega (arith, sums, one-product x)

pub dot-ones_right : (n : ℕ) (xs : List ℤ) → dot xs (ones n) ≡ total (take n xs)
dot-ones_right n xs = dot_comm xs (ones n) ∙ dot-ones_left n xs

pub dot-ones_all : (n : ℕ) (xs : List ℤ) → length xs ≤ n → dot (ones n) xs ≡ total xs
dot-ones_all zero [] h = refl
dot-ones_all zero (x ∷ xs) h = absurd (omega arith)
dot-ones_all (suc n) [] h = refl
dot-ones_all (suc n) (x ∷ xs) h = let e = dot-ones_all n xs (omega arith) in omega (arith, sums, one-product x)

pub total-append : (xs ys : List ℤ) → total (xs ++ ys) ≡ total xs +ℤ total ys
total-append [] ys = omega (arith, sums)
total-append (x ∷ xs) ys = let h = total-append xs ys in omega (arith, sums)

pub total-sum_of_rows : (xs ys : List ℤ) → total (sum_of_rows xs ys) ≡ total xs +ℤ total ys
total-sum_of_rows [] ys = omega (arith, sums)
total-sum_of_rows (x ∷ xs) [] = omega (arith, sums)
total-sum_of_rows (x ∷ xs) (y ∷ ys) = let h = total-sum_of_rows xs ys in omega (arith, sums)

pub total-scaled_row : (k : ℤ) (xs : List ℤ) → total (scaled_row k xs) ≡ k *ℤ total xs
total-scaled_row k [] = sym (product-zero k)
total-scaled_row k (x ∷ xs) = let h = total-scaled_row k xs in omega (arith, sums, product-sum k x (total xs))

pub total-row_difference : (xs ys : List ℤ) → total (row_difference xs ys) ≡ total xs -ℤ total ys
total-row_difference xs ys =
    let h = total-scaled_row (negsuc 0) ys in
    omega (arith, sums, total-sum_of_rows xs (scaled_row (negsuc 0) ys), minus_one-product (total ys))

pub total-ones : (n : ℕ) → total (ones n) ≡ pos n
total-ones zero = refl
total-ones (suc n) = let h = total-ones n in omega (arith, sums)

pub length-ones : (n : ℕ) → length (ones n) ≡ n
length-ones zero = refl
length-ones (suc n) = ap suc (length-ones n)

-- ---- a loop's step, over what is left, and its end
pub dot_more : (xs ys : List ℤ) (j : ℕ) → j < length xs → j < length ys → dot (drop j xs) (drop j ys) ≡ entry xs j *ℤ entry ys j +ℤ dot (drop (j + 1) xs) (drop (j + 1) ys)
dot_more xs ys j h k = rw (add-one, drop-cons xs j (pos 0) h, drop-cons ys j (pos 0) k)

pub absolute_dot_more : (xs ys : List ℤ) (j : ℕ) → j < length xs → j < length ys → absolute_dot (drop j xs) (drop j ys) ≡ unsigned_abs (entry xs j *ℤ entry ys j) + absolute_dot (drop (j + 1) xs) (drop (j + 1) ys)
absolute_dot_more xs ys j h k = rw (add-one, drop-cons xs j (pos 0) h, drop-cons ys j (pos 0) k)

pub total_more : (xs : List ℤ) (j : ℕ) → j < length xs → total (drop j xs) ≡ entry xs j +ℤ total (drop (j + 1) xs)
total_more xs j h = rw (add-one, drop-cons xs j (pos 0) h)

-- the same over what was taken
pub dot-take_more : (xs ys : List ℤ) (j : ℕ) → dot (take (j + 1) xs) (take (j + 1) ys) ≡ dot (take j xs) (take j ys) +ℤ entry xs j *ℤ entry ys j
dot-take_more [] ys j = rw add-one (by_clause ys j)
  where
    by_clause : (ys : List ℤ) (j : ℕ) → dot [] (take (suc j) ys) ≡ dot (take j []) (take j ys) +ℤ pos 0 *ℤ entry ys j
    by_clause ys zero = omega (arith, sums, zero-product (entry ys 0))
    by_clause ys (suc j) = omega (arith, sums, zero-product (entry ys (suc j)))
dot-take_more (x ∷ xs) [] j = rw add-one (by_clause x xs j)
  where
    by_clause : (x : ℤ) (xs : List ℤ) (j : ℕ) → dot (take (suc j) (x ∷ xs)) [] ≡ dot (take j (x ∷ xs)) (take j []) +ℤ entry (x ∷ xs) j *ℤ pos 0
    by_clause x xs zero = omega (arith, sums, product-zero x)
    by_clause x xs (suc j) = omega (arith, sums, product-zero (entry xs j))
dot-take_more (x ∷ xs) (y ∷ ys) zero = omega (arith, sums)
dot-take_more (x ∷ xs) (y ∷ ys) (suc j) = let h = simp add-one at (dot-take_more xs ys j) in rw add-one (omega (arith, sums))

pub absolute_dot_comm : (xs ys : List ℤ) → absolute_dot xs ys ≡ absolute_dot ys xs
absolute_dot_comm [] [] = refl
absolute_dot_comm [] (y ∷ ys) = refl
absolute_dot_comm (x ∷ xs) [] = refl
absolute_dot_comm (x ∷ xs) (y ∷ ys) = let h = absolute_dot_comm xs ys in let e = ap unsigned_abs (product_comm x y) in omega arith

pub absolute_dot-append : (xs us ys vs : List ℤ) → length xs ≡ length ys → absolute_dot (xs ++ us) (ys ++ vs) ≡ absolute_dot xs ys + absolute_dot us vs
absolute_dot-append [] us [] vs e = omega arith
absolute_dot-append [] us (y ∷ ys) vs e = absurd (omega arith)
absolute_dot-append (x ∷ xs) us [] vs e = absurd (omega arith)
absolute_dot-append (x ∷ xs) us (y ∷ ys) vs e = let h = absolute_dot-append xs us ys vs (omega arith) in omega arith

pub dot-le-absolute_dot : (xs ys : List ℤ) → unsigned_abs (dot xs ys) ≤ absolute_dot xs ys
dot-le-absolute_dot [] ys = omega arith
dot-le-absolute_dot (x ∷ xs) [] = omega arith
dot-le-absolute_dot (x ∷ xs) (y ∷ ys) = let h = dot-le-absolute_dot xs ys in omega (arith, sums)
