-- A running total of numbers none of which is below 0, signs in two lists, and columns of weak and strict rows.
use Rattle.std.proofs.Common.{true, false, negsuc, IsTrue, ◌↔◌, subst, ◌≡◌, ℕ, ◌+◌, ◌<◌, ◌≤◌, ◌^◌, List, [], ◌∷◌, ◌++◌, length, drop, ℤ, pos, ◌+ℤ◌, ◌≤ℤ◌, ◌<ℤ◌, unsigned_abs, FitsSigned, ◌-◌, ◌⊎◌, inl, inr, ap, sym, ◌∙◌, arith, length-append}
use Rattle.std.specs.Int.{w128}
use Rattle.std.specs.Int.Signed.{lt_z}
use Rattle.std.specs.List.{AllByRecursion}
use Rattle.std.proofs.lemmas.Bool.{cases_lt}
use Rattle.std.proofs.lemmas.Int.{ints, fits_signed_from_abs}
use Rattle.std.proofs.lemmas.List.{drop_all, get_or-append-add, get_or_append_left}
use Rattle.ror_integers.specs.Vectors.{entry, dot, absolute_dot, column, total, NoneNegative, SomePositive}
use Rattle.ror_integers.proofs.Ring.{sums}
use Rattle.ror_integers.proofs.Dots.{total_more, dot-append, absolute_dot-append}
use Rattle.ror_integers.proofs.Rows.{column-append, length-column}
use Rattle.ror_integers.proofs.Signs.{NoneNegative-entry, NoneNegative-drop, total_nonnegative}
use Rattle.ror_system.specs.System.{IsNarrow}
use Rattle.ror_system.specs.Signs.{IsFirstNegative}

-- with what is left from place i on, the sum is the total
pub record IsLeftOfTotal (sum : ℤ) (xs : List ℤ) (i : ℕ) : Type 0 where
  pub not_negative : pos 0 ≤ℤ sum
  pub left : sum +ℤ total (drop i xs) ≡ total xs

pub IsLeftOfTotal-start : (xs : List ℤ) → IsLeftOfTotal (pos 0) xs 0
IsLeftOfTotal-start xs = record { not_negative = omega (arith, sums); left = omega (arith, sums) }

pub IsLeftOfTotal-more : (sum x more : ℤ) (xs : List ℤ) (i : ℕ) → IsLeftOfTotal sum xs i → NoneNegative xs → i < length xs → x ≡ entry xs i → more ≡ sum +ℤ x → IsLeftOfTotal more xs (i + 1)
IsLeftOfTotal-more sum x more xs i h n l e f =
    let a = h.not_negative in
    let b = h.left in
    let p = NoneNegative-entry xs i n in
    let t = total_more xs i l in
    record { not_negative = omega (arith, sums); left = omega (arith, sums) }

-- a sum that does not fit is part of a total that is too large
pub IsLeftOfTotal-over : (sum x : ℤ) (xs : List ℤ) (i : ℕ) → IsLeftOfTotal sum xs i → NoneNegative xs → i < length xs → x ≡ entry xs i → ¬ (FitsSigned w128 (sum +ℤ x)) → ¬ (IsNarrow (total xs))
IsLeftOfTotal-over sum x xs i h n l e over narrow =
    let a = h.not_negative in
    let b = h.left in
    let p = NoneNegative-entry xs i n in
    let t = total_more xs i l in
    let q = total_nonnegative (drop (i + 1) xs) (NoneNegative-drop (i + 1) xs n) in
    let s : pos 0 ≤ℤ (sum +ℤ x) = omega (arith, sums) in
    let u : (sum +ℤ x) ≤ℤ total xs = omega (arith, sums) in
    over (fits_signed_from_abs w128 (sum +ℤ x) (smaller (sum +ℤ x) (total xs) (2 ^ 127) s u narrow))
  where
    smaller : (a b : ℤ) (limit : ℕ) → pos 0 ≤ℤ a → a ≤ℤ b → unsigned_abs b < limit → unsigned_abs a < limit
    smaller a b limit h l n = omega (arith, ints)

pub IsLeftOfTotal-end : (sum : ℤ) (xs : List ℤ) (i : ℕ) → IsLeftOfTotal sum xs i → length xs ≤ i → sum ≡ total xs
IsLeftOfTotal-end sum xs i h l =
    let b = h.left in
    let e : total (drop i xs) ≡ pos 0 = ap total (drop_all i xs l) in
    omega (arith, sums)

-- ---- signs
pub not_below : (x y : ℤ) → lt_z x y ≡ false → y ≤ℤ x
not_below x y h = grind (arith, ints)

pub is_below : (x y : ℤ) → lt_z x y ≡ true → x <ℤ y
is_below x y h = grind (arith, ints)

pub none_positive : (xs : List ℤ) (n : ℕ) → ((k : ℕ) → k < n → entry xs k ≤ℤ pos 0) → length xs ≤ n → ¬ (SomePositive xs)
none_positive xs n h l s =
    let p = h s.0 (omega (arith, s.1)) in
    let q = s.2 in
    absurd (omega (arith, sums))

-- the first negative number of a list is that of the list with more after it
pub IsFirstNegative-append_left : (xs ys : List ℤ) (k : ℕ) → IsFirstNegative xs k → IsFirstNegative (xs ++ ys) k
IsFirstNegative-append_left xs ys k h =
    let l = h.within in
    let n = h.negative in
    let e = get_or_append_left xs ys (pos 0) k l in
    record {
      within = omega (arith, length-append xs ys);
      negative = omega (arith, sums);
      none_before = λ j p. let f = get_or_append_left xs ys (pos 0) j (omega arith) in let g = h.none_before j p in omega (arith, sums);
    }

-- after numbers none of which is negative it is as much later
pub IsFirstNegative-append_right : (xs ys : List ℤ) (k : ℕ) → NoneNegative xs → IsFirstNegative ys k → IsFirstNegative (xs ++ ys) (length xs + k)
IsFirstNegative-append_right xs ys k m h =
    let l = h.within in
    let n = h.negative in
    let e = get_or-append-add xs ys k (pos 0) in
    record { within = omega (arith, length-append xs ys); negative = omega (arith, sums); none_before = λ j p. before j p (cases_lt j (length xs)) }
  where
    before : (j : ℕ) → j < length xs + k → (j < length xs) ⊎ (length xs ≤ j) → pos 0 ≤ℤ entry (xs ++ ys) j
    before j p (inl l) = let f = get_or_append_left xs ys (pos 0) j l in let g = NoneNegative-entry xs j m in omega (arith, sums)
    before j p (inr l) =
        let f = get_or-append-add xs ys (j - length xs) (pos 0) in
        let i : length xs + (j - length xs) ≡ j = omega arith in
        let a = ap (entry (xs ++ ys)) i in
        let g = h.none_before (j - length xs) (omega arith) in
        omega (arith, sums)

-- ---- a column of weak and strict rows
pub dot-column_of_both : (weak strict : List ℤ) (rows more : List (List ℤ)) (j : ℕ) → length weak ≡ length rows → dot (weak ++ strict) (column (rows ++ more) j) ≡ dot weak (column rows j) +ℤ dot strict (column more j)
dot-column_of_both weak strict rows more j e = ap (dot (weak ++ strict)) (column-append rows more j) ∙ dot-append weak strict (column rows j) (column more j) (e ∙ sym (length-column rows j))

pub absolute_dot-column_of_both : (weak strict : List ℤ) (rows more : List (List ℤ)) (j : ℕ) → length weak ≡ length rows → absolute_dot (weak ++ strict) (column (rows ++ more) j) ≡ absolute_dot weak (column rows j) + absolute_dot strict (column more j)
absolute_dot-column_of_both weak strict rows more j e = ap (absolute_dot (weak ++ strict)) (column-append rows more j) ∙ absolute_dot-append weak strict (column rows j) (column more j) (e ∙ sym (length-column rows j))

pub within_widths : (n j : ℕ) (rows : List (List ℤ)) → AllByRecursion (λ row. length row ≡ n) rows → j < n → AllByRecursion (λ row. j < length row) rows
within_widths n j [] h l = tt
within_widths n j (row ∷ rows) h l = let e = h.0 in (omega arith, within_widths n j rows h.1 l)

-- ---- what the last comparison of the total says
pub total_decided : (sum whole : ℤ) → pos 0 ≤ℤ sum → FitsSigned w128 sum → sum ≡ whole → IsTrue (lt_z (pos 0) sum) ↔ ((pos 0 <ℤ whole) × IsNarrow whole)
total_decided sum whole p f e =
    let P : ℤ → Type 0 = λ z. IsTrue (lt_z (pos 0) sum) ↔ ((pos 0 <ℤ z) × IsNarrow z) in
    subst P e (λ h. (grind (arith, ints), narrow sum p f), λ k. let q = k.0 in grind (arith, ints))
  where
    narrow : (z : ℤ) → pos 0 ≤ℤ z → FitsSigned w128 z → IsNarrow z
    narrow (pos n) p f = f.sfits
    narrow (negsuc n) p f = absurd p.le
