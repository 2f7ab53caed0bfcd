-- The laws of padded vectors: entries, linearity of dot products, the exchange of sums, signs and bounds.
use Rattle.std.specs.Prelude.{◌≡◌, ℕ, ◌≤◌, List, ◌++◌, length, take, ℤ, pos, ◌+ℤ◌, ◌-ℤ◌, ◌*ℤ◌, ◌≤ℤ◌, ◌<ℤ◌, unsigned_abs}
use Rattle.ror_integers.specs.Vectors.{entry, dot, absolute_dot, total, ones, sum_of_rows, scaled_row, row_difference, weighted, dots, column, NoneNegative}

pub record VectorLaws : Type 0 where
  pub entry_of_sum :
      (xs ys : List ℤ) (j : ℕ)
      → entry (sum_of_rows xs ys) j ≡ entry xs j +ℤ entry ys j
  pub entry_of_scaled : (k : ℤ) (xs : List ℤ) (j : ℕ) → entry (scaled_row k xs) j ≡ k *ℤ entry xs j
  pub entry_of_difference :
      (xs ys : List ℤ) (j : ℕ)
      → entry (row_difference xs ys) j ≡ entry xs j -ℤ entry ys j
  pub entry_of_weighted :
      (ms : List ℤ) (rows : List (List ℤ)) (j : ℕ)
      → entry (weighted ms rows) j ≡ dot ms (column rows j)
  pub dot_commutes : (xs ys : List ℤ) → dot xs ys ≡ dot ys xs
  pub dot_of_sum : (xs ys zs : List ℤ) → dot (sum_of_rows xs ys) zs ≡ dot xs zs +ℤ dot ys zs
  pub dot_of_scaled : (k : ℤ) (xs ys : List ℤ) → dot (scaled_row k xs) ys ≡ k *ℤ dot xs ys
  pub dot_of_difference :
      (xs ys zs : List ℤ)
      → dot (row_difference xs ys) zs ≡ dot xs zs -ℤ dot ys zs
  pub dot_of_appended :
      (xs us ys vs : List ℤ)
      → length xs ≡ length ys → dot (xs ++ us) (ys ++ vs) ≡ dot xs ys +ℤ dot us vs
  pub dot_of_ones : (n : ℕ) (xs : List ℤ) → dot (ones n) xs ≡ total (take n xs)
  pub sums_exchange :
      (ms : List ℤ) (rows : List (List ℤ)) (x : List ℤ)
      → dot (weighted ms rows) x ≡ dot ms (dots rows x)
  pub dot_within : (xs ys : List ℤ) → unsigned_abs (dot xs ys) ≤ absolute_dot xs ys
  pub dot_grows :
      (xs ys zs : List ℤ)
      → ((j : ℕ) → entry xs j ≤ℤ entry ys j) → NoneNegative zs → dot xs zs ≤ℤ dot ys zs
  pub dot_not_negative : (xs ys : List ℤ) → NoneNegative xs → NoneNegative ys → pos 0 ≤ℤ dot xs ys
  pub dot_positive :
      (xs ys : List ℤ) (k : ℕ)
      → NoneNegative xs → NoneNegative ys → pos 0 <ℤ entry xs k → pos 0 <ℤ entry ys k
      → pos 0 <ℤ dot xs ys
