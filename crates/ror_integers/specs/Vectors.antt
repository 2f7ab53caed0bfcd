-- Vectors of integers as lists, padded with zeros: entries, sums of rows, scaled rows, dot products, signs.
use Rattle.std.specs.Prelude.{ℕ, ◌+◌, ◌<◌, List, [], ◌∷◌, map, length, get_or, replicate, ℤ, pos, ◌+ℤ◌, ◌*ℤ◌, neg_ℤ, ◌≤ℤ◌, ◌<ℤ◌, unsigned_abs}
use Rattle.std.specs.List.{AllByRecursion}

-- the entry at place j; past the end it is 0
abbrev pub entry : List ℤ → ℕ → ℤ
entry row j = get_or row j (pos 0)

-- the sum of the products of entries at one place
abbrev pub dot : List ℤ → List ℤ → ℤ
dot [] ys = pos 0
dot (x ∷ xs) [] = pos 0
dot (x ∷ xs) (y ∷ ys) = x *ℤ y +ℤ dot xs ys

-- the sum of the absolute values of those products
abbrev pub absolute_dot : List ℤ → List ℤ → ℕ
absolute_dot [] ys = 0
absolute_dot (x ∷ xs) [] = 0
absolute_dot (x ∷ xs) (y ∷ ys) = unsigned_abs (x *ℤ y) + absolute_dot xs ys

-- the sum of the entries
abbrev pub total : List ℤ → ℤ
total [] = pos 0
total (x ∷ xs) = x +ℤ total xs

-- n entries, each 1
abbrev pub ones : ℕ → List ℤ
ones n = replicate n (pos 1)

-- the sums of the entries at one place, as many as the longer list has
abbrev pub sum_of_rows : List ℤ → List ℤ → List ℤ
sum_of_rows [] ys = ys
sum_of_rows (x ∷ xs) [] = x ∷ xs
sum_of_rows (x ∷ xs) (y ∷ ys) = (x +ℤ y) ∷ sum_of_rows xs ys

-- each entry times k
abbrev pub scaled_row : ℤ → List ℤ → List ℤ
scaled_row k xs = map (λ x. k *ℤ x) xs

-- the first row less the second
abbrev pub row_difference : List ℤ → List ℤ → List ℤ
row_difference xs ys = sum_of_rows xs (scaled_row (neg_ℤ (pos 1)) ys)

-- the sum of the rows, each times its multiplier
abbrev pub weighted : List ℤ → List (List ℤ) → List ℤ
weighted [] rows = []
weighted (m ∷ ms) [] = []
weighted (m ∷ ms) (row ∷ rows) = sum_of_rows (scaled_row m row) (weighted ms rows)

-- the dot product of each row with x
abbrev pub dots : List (List ℤ) → List ℤ → List ℤ
dots rows x = map (λ row. dot row x) rows

-- the entry of each row at place j
abbrev pub column : List (List ℤ) → ℕ → List ℤ
column rows j = map (λ row. entry row j) rows

-- no entry is below 0
abbrev pub NoneNegative : List ℤ → Type 0
NoneNegative xs = AllByRecursion (λ x. pos 0 ≤ℤ x) xs

-- some entry is above 0
abbrev pub SomePositive : List ℤ → Type 0
SomePositive xs = (k : ℕ) × (k < length xs) × (pos 0 <ℤ entry xs k)
