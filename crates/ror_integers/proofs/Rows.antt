-- Sums of rows: entries, lengths, the laws of a module, and the exchange of sums.
use Rattle.std.proofs.Common.{◌≡◌, ℕ, zero, suc, ◌<◌, ◌≤◌, max, List, [], ◌∷◌, ◌++◌, length, get_or, ℤ, pos, negsuc, ◌+ℤ◌, ◌-ℤ◌, ◌*ℤ◌, refl, ap, ap₂, sym, ◌∙◌, arith}
use Rattle.std.specs.List.{AllByRecursion}
use Rattle.ror_integers.specs.Vectors.{entry, dot, sum_of_rows, scaled_row, row_difference, weighted, dots, column}
use Rattle.ror_integers.proofs.Ring.{sums, product_assoc, product-sum, sum-product, product-zero, one-product, minus_one-product}
use Rattle.ror_integers.proofs.Dots.{dot-sum_of_rows_left, dot-scaled_row_left}

-- ---- entries
pub entry_past : (xs : List ℤ) (j : ℕ) → length xs ≤ j → entry xs j ≡ pos 0
entry_past [] j h = refl
entry_past (x ∷ xs) zero h = absurd (omega arith)
entry_past (x ∷ xs) (suc j) h = entry_past xs j (omega arith)

pub entry-sum_of_rows : (xs ys : List ℤ) (j : ℕ) → entry (sum_of_rows xs ys) j ≡ entry xs j +ℤ entry ys j
entry-sum_of_rows [] ys j = omega (arith, sums)
entry-sum_of_rows (x ∷ xs) [] j = omega (arith, sums)
entry-sum_of_rows (x ∷ xs) (y ∷ ys) zero = refl
entry-sum_of_rows (x ∷ xs) (y ∷ ys) (suc j) = entry-sum_of_rows xs ys j

pub entry-scaled_row : (k : ℤ) (xs : List ℤ) (j : ℕ) → entry (scaled_row k xs) j ≡ k *ℤ entry xs j
entry-scaled_row k [] j = sym (product-zero k)
entry-scaled_row k (x ∷ xs) zero = refl
entry-scaled_row k (x ∷ xs) (suc j) = entry-scaled_row k xs j

pub entry-row_difference : (xs ys : List ℤ) (j : ℕ) → entry (row_difference xs ys) j ≡ entry xs j -ℤ entry ys j
entry-row_difference xs ys j =
    entry-sum_of_rows xs (scaled_row (negsuc 0) ys) j ∙ ap (λ (e : ℤ). entry xs j +ℤ e) (entry-scaled_row (negsuc 0) ys j ∙ minus_one-product (entry ys j))

pub entry-weighted : (ms : List ℤ) (rows : List (List ℤ)) (j : ℕ) → entry (weighted ms rows) j ≡ dot ms (column rows j)
entry-weighted [] rows j = refl
entry-weighted (m ∷ ms) [] j = refl
entry-weighted (m ∷ ms) (row ∷ rows) j =
    let h = entry-weighted ms rows j in
    omega (arith, sums, entry-sum_of_rows (scaled_row m row) (weighted ms rows) j, entry-scaled_row m row j)

pub entry-dots : (rows : List (List ℤ)) (x : List ℤ) (k : ℕ) → entry (dots rows x) k ≡ dot (get_or rows k []) x
entry-dots [] x k = refl
entry-dots (row ∷ rows) x zero = refl
entry-dots (row ∷ rows) x (suc k) = entry-dots rows x k

pub entry-column : (rows : List (List ℤ)) (j k : ℕ) → entry (column rows j) k ≡ entry (get_or rows k []) j
entry-column [] j k = refl
entry-column (row ∷ rows) j zero = refl
entry-column (row ∷ rows) j (suc k) = entry-column rows j k

-- two lists of one length with the same entries are one list
pub same_from_entries : (xs ys : List ℤ) → length xs ≡ length ys → ((j : ℕ) → j < length xs → entry xs j ≡ entry ys j) → xs ≡ ys
same_from_entries [] [] e h = refl
same_from_entries [] (y ∷ ys) e h = absurd (omega arith)
same_from_entries (x ∷ xs) [] e h = absurd (omega arith)
same_from_entries (x ∷ xs) (y ∷ ys) e h =
    ap₂ (λ (a : ℤ) (rest : List ℤ). a ∷ rest) (h 0 (omega arith)) (same_from_entries xs ys (omega arith) (λ j l. h (suc j) (omega arith)))

-- ---- lengths
pub length-sum_of_rows : (xs ys : List ℤ) → length (sum_of_rows xs ys) ≡ max (length xs) (length ys)
length-sum_of_rows [] ys = omega arith
length-sum_of_rows (x ∷ xs) [] = omega arith
length-sum_of_rows (x ∷ xs) (y ∷ ys) = let h = length-sum_of_rows xs ys in omega arith

pub length-scaled_row : (k : ℤ) (xs : List ℤ) → length (scaled_row k xs) ≡ length xs
length-scaled_row k [] = refl
length-scaled_row k (x ∷ xs) = ap suc (length-scaled_row k xs)

pub length-row_difference : (xs ys : List ℤ) → length (row_difference xs ys) ≡ max (length xs) (length ys)
length-row_difference xs ys = length-sum_of_rows xs (scaled_row (negsuc 0) ys) ∙ ap (max (length xs)) (length-scaled_row (negsuc 0) ys)

pub length-dots : (rows : List (List ℤ)) (x : List ℤ) → length (dots rows x) ≡ length rows
length-dots [] x = refl
length-dots (row ∷ rows) x = ap suc (length-dots rows x)

pub length-column : (rows : List (List ℤ)) (j : ℕ) → length (column rows j) ≡ length rows
length-column [] j = refl
length-column (row ∷ rows) j = ap suc (length-column rows j)

-- ---- the rows are a module over the integers
pub sum_of_rows-nil_right : (xs : List ℤ) → sum_of_rows xs [] ≡ xs
sum_of_rows-nil_right [] = refl
sum_of_rows-nil_right (x ∷ xs) = refl

pub sum_of_rows_comm : (xs ys : List ℤ) → sum_of_rows xs ys ≡ sum_of_rows ys xs
sum_of_rows_comm [] ys = sym (sum_of_rows-nil_right ys)
sum_of_rows_comm (x ∷ xs) [] = refl
sum_of_rows_comm (x ∷ xs) (y ∷ ys) = ap₂ (λ (a : ℤ) (r : List ℤ). a ∷ r) (omega (arith, sums)) (sum_of_rows_comm xs ys)

pub sum_of_rows_assoc : (xs ys zs : List ℤ) → sum_of_rows (sum_of_rows xs ys) zs ≡ sum_of_rows xs (sum_of_rows ys zs)
sum_of_rows_assoc [] ys zs = refl
sum_of_rows_assoc (x ∷ xs) [] zs = refl
sum_of_rows_assoc (x ∷ xs) (y ∷ ys) [] = refl
sum_of_rows_assoc (x ∷ xs) (y ∷ ys) (z ∷ zs) = ap₂ (λ (a : ℤ) (r : List ℤ). a ∷ r) (omega (arith, sums)) (sum_of_rows_assoc xs ys zs)

pub scaled_row-sum_of_rows : (k : ℤ) (xs ys : List ℤ) → scaled_row k (sum_of_rows xs ys) ≡ sum_of_rows (scaled_row k xs) (scaled_row k ys)
scaled_row-sum_of_rows k [] ys = refl
scaled_row-sum_of_rows k (x ∷ xs) [] = refl
scaled_row-sum_of_rows k (x ∷ xs) (y ∷ ys) = ap₂ (λ (a : ℤ) (r : List ℤ). a ∷ r) (product-sum k x y) (scaled_row-sum_of_rows k xs ys)

pub scaled_row-scaled_row : (k l : ℤ) (xs : List ℤ) → scaled_row k (scaled_row l xs) ≡ scaled_row (k *ℤ l) xs
scaled_row-scaled_row k l [] = refl
scaled_row-scaled_row k l (x ∷ xs) = ap₂ (λ (a : ℤ) (r : List ℤ). a ∷ r) (sym (product_assoc k l x)) (scaled_row-scaled_row k l xs)

pub scaled_row-sum : (k l : ℤ) (xs : List ℤ) → scaled_row (k +ℤ l) xs ≡ sum_of_rows (scaled_row k xs) (scaled_row l xs)
scaled_row-sum k l [] = refl
scaled_row-sum k l (x ∷ xs) = ap₂ (λ (a : ℤ) (r : List ℤ). a ∷ r) (sum-product k l x) (scaled_row-sum k l xs)

pub scaled_row-one : (xs : List ℤ) → scaled_row (pos 1) xs ≡ xs
scaled_row-one [] = refl
scaled_row-one (x ∷ xs) = ap₂ (λ (a : ℤ) (r : List ℤ). a ∷ r) (one-product x) (scaled_row-one xs)

-- ---- combinations of rows
pub weighted-nil_right : (ms : List ℤ) → weighted ms [] ≡ []
weighted-nil_right [] = refl
weighted-nil_right (m ∷ ms) = refl

pub weighted-scaled_row : (k : ℤ) (ms : List ℤ) (rows : List (List ℤ)) → weighted (scaled_row k ms) rows ≡ scaled_row k (weighted ms rows)
weighted-scaled_row k [] rows = refl
weighted-scaled_row k (m ∷ ms) [] = refl
weighted-scaled_row k (m ∷ ms) (row ∷ rows) =
    ap₂ sum_of_rows (sym (scaled_row-scaled_row k m row)) (weighted-scaled_row k ms rows) ∙ sym (scaled_row-sum_of_rows k (scaled_row m row) (weighted ms rows))

pub sum_of_rows_crossed : (a b c d : List ℤ) → sum_of_rows (sum_of_rows a b) (sum_of_rows c d) ≡ sum_of_rows (sum_of_rows a c) (sum_of_rows b d)
sum_of_rows_crossed a b c d =
    sum_of_rows_assoc a b (sum_of_rows c d)
    ∙ ap (sum_of_rows a) (sym (sum_of_rows_assoc b c d) ∙ ap (λ (r : List ℤ). sum_of_rows r d) (sum_of_rows_comm b c) ∙ sum_of_rows_assoc c b d)
    ∙ sym (sum_of_rows_assoc a c (sum_of_rows b d))

pub weighted-sum_of_rows : (ms ns : List ℤ) (rows : List (List ℤ)) → weighted (sum_of_rows ms ns) rows ≡ sum_of_rows (weighted ms rows) (weighted ns rows)
weighted-sum_of_rows [] ns rows = refl
weighted-sum_of_rows (m ∷ ms) [] rows = sym (sum_of_rows-nil_right (weighted (m ∷ ms) rows))
weighted-sum_of_rows (m ∷ ms) (n ∷ ns) [] = refl
weighted-sum_of_rows (m ∷ ms) (n ∷ ns) (row ∷ rows) =
    ap₂ sum_of_rows (scaled_row-sum m n row) (weighted-sum_of_rows ms ns rows)
    ∙ sum_of_rows_crossed (scaled_row m row) (scaled_row n row) (weighted ms rows) (weighted ns rows)

pub weighted-append : (ms ns : List ℤ) (rows more : List (List ℤ)) → length ms ≡ length rows → weighted (ms ++ ns) (rows ++ more) ≡ sum_of_rows (weighted ms rows) (weighted ns more)
weighted-append [] ns [] more e = refl
weighted-append [] ns (row ∷ rows) more e = absurd (omega arith)
weighted-append (m ∷ ms) ns [] more e = absurd (omega arith)
weighted-append (m ∷ ms) ns (row ∷ rows) more e =
    ap (sum_of_rows (scaled_row m row)) (weighted-append ms ns rows more (omega arith))
    ∙ sym (sum_of_rows_assoc (scaled_row m row) (weighted ms rows) (weighted ns more))

-- where all rows have n entries, so has a combination of one or more of them
pub length-weighted : (n : ℕ) (ms : List ℤ) (rows : List (List ℤ)) → AllByRecursion (λ row. length row ≡ n) rows → 0 < length ms → 0 < length rows → length (weighted ms rows) ≡ n
length-weighted n [] rows h p q = absurd (omega arith)
length-weighted n (m ∷ ms) [] h p q = absurd (omega arith)
length-weighted n (m ∷ []) (row ∷ rows) h p q = ap length (sum_of_rows-nil_right (scaled_row m row)) ∙ length-scaled_row m row ∙ h.0
length-weighted n (m ∷ k ∷ ms) (row ∷ []) h p q = ap length (sum_of_rows-nil_right (scaled_row m row)) ∙ length-scaled_row m row ∙ h.0
length-weighted n (m ∷ k ∷ ms) (row ∷ more ∷ rows) h p q =
    let e = length-weighted n (k ∷ ms) (more ∷ rows) h.1 (omega arith) (omega arith) in
    let f = h.0 in
    omega (arith, length-sum_of_rows (scaled_row m row) (weighted (k ∷ ms) (more ∷ rows)), length-scaled_row m row)

-- ---- the exchange of sums
pub dot-weighted : (ms : List ℤ) (rows : List (List ℤ)) (x : List ℤ) → dot (weighted ms rows) x ≡ dot ms (dots rows x)
dot-weighted [] rows x = refl
dot-weighted (m ∷ ms) [] x = refl
dot-weighted (m ∷ ms) (row ∷ rows) x =
    let h = dot-weighted ms rows x in
    omega (arith, sums, dot-sum_of_rows_left (scaled_row m row) (weighted ms rows) x, dot-scaled_row_left m row x)

pub dots-append : (rows more : List (List ℤ)) (x : List ℤ) → dots (rows ++ more) x ≡ dots rows x ++ dots more x
dots-append [] more x = refl
dots-append (row ∷ rows) more x = ap (λ (r : List ℤ). dot row x ∷ r) (dots-append rows more x)

pub column-append : (rows more : List (List ℤ)) (j : ℕ) → column (rows ++ more) j ≡ column rows j ++ column more j
column-append [] more j = refl
column-append (row ∷ rows) more j = ap (λ (r : List ℤ). entry row j ∷ r) (column-append rows more j)

-- past the rows' common length each column is zero
pub dot-column_past : (ms : List ℤ) (n : ℕ) (rows : List (List ℤ)) (j : ℕ) → AllByRecursion (λ row. length row ≡ n) rows → n ≤ j → dot ms (column rows j) ≡ pos 0
dot-column_past [] n rows j h l = refl
dot-column_past (m ∷ ms) n [] j h l = refl
dot-column_past (m ∷ ms) n (row ∷ rows) j h l =
    let e = dot-column_past ms n rows j h.1 l in
    let f = h.0 in
    let z = ap (λ (a : ℤ). m *ℤ a) (entry_past row j (omega arith)) ∙ product-zero m in
    omega (arith, sums)
