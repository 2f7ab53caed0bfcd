-- A running sum of products and the sum of their absolute values, by what is left to add.
use Rattle.std.proofs.Common.{◌≡◌, ℕ, zero, suc, ◌+◌, ◌<◌, ◌≤◌, List, [], ◌∷◌, length, drop, get_or, ℤ, pos, ◌+ℤ◌, ◌*ℤ◌, unsigned_abs, refl, sym, ap, subst, arith}
use Rattle.std.specs.List.{AllByRecursion}
use Rattle.std.proofs.lemmas.List.{drop_all}
use Rattle.ror_integers.specs.Vectors.{entry, dot, absolute_dot, column}
use Rattle.ror_integers.proofs.Ring.{sums}
use Rattle.ror_integers.proofs.Dots.{dot_more, absolute_dot_more}

-- with what is left from place j on, the sums are those of the start and of all products
pub record IsLeft (value start : ℤ) (width begun : ℕ) (xs ys : List ℤ) (j : ℕ) : Type 0 where
  pub value_left : value +ℤ dot (drop j xs) (drop j ys) ≡ start +ℤ dot xs ys
  pub width_left : width + absolute_dot (drop j xs) (drop j ys) ≡ begun + absolute_dot xs ys

pub IsLeft-start : (value : ℤ) (width : ℕ) (xs ys : List ℤ) → IsLeft value value width width xs ys 0
IsLeft-start value width xs ys = record { value_left = refl; width_left = refl }

pub IsLeft-more : (value start : ℤ) (width begun : ℕ) (xs ys : List ℤ) (j : ℕ) (value' : ℤ) (width' : ℕ) (x y : ℤ) → IsLeft value start width begun xs ys j → j < length xs → j < length ys → x ≡ entry xs j → y ≡ entry ys j → value' ≡ value +ℤ x *ℤ y → width' ≡ width + unsigned_abs (x *ℤ y) → IsLeft value' start width' begun xs ys (j + 1)
IsLeft-more value start width begun xs ys j value' width' x y h l k p q e f =
    let a = h.value_left in
    let b = h.width_left in
    let d = dot_more xs ys j l k in
    let g = absolute_dot_more xs ys j l k in
    let u : x *ℤ y ≡ entry xs j *ℤ entry ys j = cc in
    let v : unsigned_abs (x *ℤ y) ≡ unsigned_abs (entry xs j *ℤ entry ys j) = ap unsigned_abs u in
    record { value_left = omega (arith, sums); width_left = omega arith }

-- one product more would be too much: so are all
pub IsLeft-over : (value start : ℤ) (width begun : ℕ) (xs ys : List ℤ) (j : ℕ) (x y : ℤ) (limit : ℕ) → IsLeft value start width begun xs ys j → j < length xs → j < length ys → x ≡ entry xs j → y ≡ entry ys j → limit ≤ width + unsigned_abs (x *ℤ y) → limit ≤ begun + absolute_dot xs ys
IsLeft-over value start width begun xs ys j x y limit h l k p q o =
    let b = h.width_left in
    let g = absolute_dot_more xs ys j l k in
    let u : x *ℤ y ≡ entry xs j *ℤ entry ys j = cc in
    let v : unsigned_abs (x *ℤ y) ≡ unsigned_abs (entry xs j *ℤ entry ys j) = ap unsigned_abs u in
    omega arith

pub IsLeft-end : (value start : ℤ) (width begun : ℕ) (xs ys : List ℤ) (j : ℕ) → IsLeft value start width begun xs ys j → length xs ≤ j → (value ≡ start +ℤ dot xs ys) × (width ≡ begun + absolute_dot xs ys)
IsLeft-end value start width begun xs ys j h l =
    let a = h.value_left in
    let b = h.width_left in
    let none = drop_all j xs l in
    let d : dot (drop j xs) (drop j ys) ≡ pos 0 = ap (λ (left : List ℤ). dot left (drop j ys)) none in
    let g : absolute_dot (drop j xs) (drop j ys) ≡ 0 = ap (λ (left : List ℤ). absolute_dot left (drop j ys)) none in
    (omega (arith, sums), omega arith)

-- ---- a row of some rows, as the code reads it
pub All-row : (P : List ℤ → Type 0) (rows : List (List ℤ)) (i : ℕ) (row : List ℤ) → AllByRecursion P rows → i < length rows → row ≡ get_or rows i row → P row
All-row P [] i row h l e = absurd (omega arith)
All-row P (first ∷ rows) zero row h l e = subst P (sym e) h.0
All-row P (first ∷ rows) (suc i) row h l e = All-row P rows i row h.1 (omega arith) e

pub entry-column_of : (rows : List (List ℤ)) (i j : ℕ) (row : List ℤ) → i < length rows → row ≡ get_or rows i row → entry (column rows j) i ≡ entry row j
entry-column_of [] i j row l e = absurd (omega arith)
entry-column_of (first ∷ rows) zero j row l e = ap (λ (r : List ℤ). entry r j) (sym e)
entry-column_of (first ∷ rows) (suc i) j row l e = entry-column_of rows i j row (omega arith) e
