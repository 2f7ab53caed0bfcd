-- The entries of rows: 1 up to the rank on each stepwise criterion, else 0; the weight of the level on a linear one.
use Rattle.std.proofs.Common.{◌≡◌, ℕ, zero, suc, ◌+◌, ◌-◌, ◌<◌, ◌≤◌, min, ◌++◌, length, replicate, pos, refl, ap, ap₂, sym, ◌∙◌, arith, length-append}
use Rattle.std.specs.Prelude.{true, false, List, ℤ}
use Rattle.std.specs.List.{flat_map, range_with_len}
use Rattle.ror_integers.specs.Vectors.{entry, ones, row_difference}
use Rattle.ror_integers.proofs.Rows.{length-row_difference}
use Rattle.ror_integers.proofs.Parts.{entry-zeros}
use Rattle.std.proofs.lemmas.List.{get_or_append_left, get_or-append_right}
use Rattle.ror_statement.specs.declared.comparison.Scope.{Scope}
use Rattle.ror_statement.specs.declared.comparison.Form.{Form}
use Rattle.ror_statement.specs.declared.comparison.Form.TheVariants.{Value, Strength}
use Rattle.ror_table.specs.Blocks.{block}
use Rattle.ror_table.specs.Table.{DecisionTable, is_linear, rank, steps, width, has_weights, weight, offset, column, columns}
use Rattle.ror_table.proofs.RankLemmas.{rank-le-steps, offset-suc, offset-le}
use Rattle.ror_table.proofs.BlockLemmas.{length-block, block-linear}
use Rattle.ror_table.proofs.WeightLemmas.{has_weights-parts}
use Rattle.ror_value.proofs.Walks.{stepwise-width}
use Rattle.ror_rows.specs.Rows.{value_row, rank_in, scope_row, pair_row, form_row}

pub length-blocks : (t : DecisionTable) (r : ℕ → ℕ) (n s : ℕ)
    → offset t s + length (flat_map (λ i. block t i (r i)) (range_with_len s n)) ≡ offset t (s + n)
length-blocks t r zero s = let e : s ≡ s + zero = omega arith in let f = ap (offset t) e in omega arith
length-blocks t r (suc n) s =
    let e : (s + 1) + n ≡ s + suc n = omega arith in
    let f = ap (offset t) e in
    let rest = length-blocks t r n (s + 1) in
    let here = length-block t s (r s) in
    let next = offset-suc t s in
    let both = length-append (block t s (r s)) (flat_map (λ i. block t i (r i)) (range_with_len (s + 1) n)) in
    omega arith

pub length-all_blocks : (t : DecisionTable) (r : ℕ → ℕ) → length (flat_map (λ i. block t i (r i)) (range_with_len 0 (length t.criteria))) ≡ columns t
length-all_blocks t r =
    let all = length-blocks t r (length t.criteria) 0 in
    let e : 0 + length t.criteria ≡ length t.criteria = omega arith in
    let f = ap (offset t) e in
    omega arith

pub length-value_row : (t : DecisionTable) (a : ℕ) → length (value_row t a) ≡ columns t
length-value_row t a = length-all_blocks t (rank t a)

pub length-scope_row : (t : DecisionTable) (s : Scope) (a : ℕ) → length (scope_row t s a) ≡ columns t
length-scope_row t s a = length-all_blocks t (rank_in t s a)

same_difference : (n : ℕ) (xs ys : List ℤ) → length xs ≡ n → length ys ≡ n → length (row_difference xs ys) ≡ n
same_difference n xs ys first second = omega (arith, length-row_difference xs ys, first, second)

pub length-form_row : (t : DecisionTable) (form : Form) → length (form_row t form) ≡ columns t
length-form_row t (Value a b) = same_difference (columns t) (value_row t a) (value_row t b) (length-value_row t a) (length-value_row t b)
length-form_row t (Strength p q s) =
    same_difference (columns t) (pair_row t s p) (pair_row t s q)
    (same_difference (columns t) (scope_row t s p.first) (scope_row t s p.second) (length-scope_row t s p.first) (length-scope_row t s p.second))
    (same_difference (columns t) (scope_row t s q.first) (scope_row t s q.second) (length-scope_row t s q.first) (length-scope_row t s q.second))

-- ---- entries
entry-ones_zeros_front : (r m j : ℕ) → j < r → entry (ones r ++ replicate m (pos 0)) j ≡ pos 1
entry-ones_zeros_front zero m j h = absurd (omega arith)
entry-ones_zeros_front (suc r) m zero h = refl
entry-ones_zeros_front (suc r) m (suc j) h = entry-ones_zeros_front r m j (omega arith)

entry-ones_zeros_back : (r m j : ℕ) → r ≤ j → entry (ones r ++ replicate m (pos 0)) j ≡ pos 0
entry-ones_zeros_back zero m j h = entry-zeros m j
entry-ones_zeros_back (suc r) m zero h = absurd (omega arith)
entry-ones_zeros_back (suc r) m (suc j) h = entry-ones_zeros_back r m j (omega arith)

-- the entries of blocks from criterion s on, d criteria later
entry-blocks : (t : DecisionTable) (r : ℕ → ℕ) (n s d m j : ℕ) → d < n → j < width t (s + d) → m + offset t s ≡ offset t (s + d) + j
    → entry (flat_map (λ i. block t i (r i)) (range_with_len s n)) m ≡ entry (block t (s + d) (r (s + d))) j
entry-blocks t r zero s d m j within low e = absurd (omega arith)
entry-blocks t r (suc n) s zero m j within low e =
    let same : s + zero ≡ s = omega arith in
    let at = ap (offset t) same in
    let wide = ap (width t) same in
    let place : m ≡ j = omega arith in
    let long = length-block t s (r s) in
    get_or_append_left (block t s (r s)) (flat_map (λ i. block t i (r i)) (range_with_len (s + 1) n)) (pos 0) m (omega arith)
    ∙ ap₂ (λ (i k : ℕ). entry (block t i (r i)) k) (sym same) place
entry-blocks t r (suc n) s (suc d) m j within low e =
    let same : (s + 1) + d ≡ s + suc d = omega arith in
    let at = ap (offset t) same in
    let wide = ap (width t) same in
    let long = length-block t s (r s) in
    let next = offset-suc t s in
    let later = offset-le t (s + 1) d in
    get_or-append_right (block t s (r s)) (flat_map (λ i. block t i (r i)) (range_with_len (s + 1) n)) (width t s) m (pos 0) long (omega arith)
    ∙ entry-blocks t r n (s + 1) d (m - width t s) j (omega arith) (omega arith) (omega arith)
    ∙ ap (λ (i : ℕ). entry (block t i (r i)) j) same

entry-value_row : (t : DecisionTable) (a i k : ℕ) → i < length t.criteria → 0 < k → k ≤ width t i → entry (value_row t a) (column t i k) ≡ entry (block t i (rank t a i)) (k - 1)
entry-value_row t a i k criterion low high =
    let same : 0 + i ≡ i = omega arith in
    let at = ap (offset t) same in
    let wide = ap (width t) same in
    entry-blocks t (rank t a) (length t.criteria) 0 i (column t i k) (k - 1) criterion (omega arith) (omega arith)
    ∙ ap (λ (i : ℕ). entry (block t i (rank t a i)) (k - 1)) same

stepwise-entry : (t : DecisionTable) (i r j : ℕ) → is_linear t i ≡ false → entry (block t i r) j ≡ entry (ones (min r (steps t i)) ++ replicate (steps t i - r) (pos 0)) j
stepwise-entry t i r j is = rw is refl

pub entry-value_row_one : (t : DecisionTable) (a i k : ℕ) → a < length t.alternatives → i < length t.criteria → is_linear t i ≡ false → 0 < k → k ≤ rank t a i → entry (value_row t a) (column t i k) ≡ pos 1
entry-value_row_one t a i k within criterion is low high =
    let most = rank-le-steps t a i within in
    let wide = stepwise-width t i is in
    entry-value_row t a i k criterion low (omega (arith, wide, most, high)) ∙ stepwise-entry t i (rank t a i) (k - 1) is
    ∙ entry-ones_zeros_front (min (rank t a i) (steps t i)) (steps t i - rank t a i) (k - 1) (omega (arith, most, low, high))

pub entry-value_row_zero : (t : DecisionTable) (a i k : ℕ) → i < length t.criteria → is_linear t i ≡ false → rank t a i < k → k ≤ steps t i → entry (value_row t a) (column t i k) ≡ pos 0
entry-value_row_zero t a i k criterion is low high =
    let wide = stepwise-width t i is in
    entry-value_row t a i k criterion (omega (arith, low)) (omega (arith, wide, high)) ∙ stepwise-entry t i (rank t a i) (k - 1) is
    ∙ entry-ones_zeros_back (min (rank t a i) (steps t i)) (steps t i - rank t a i) (k - 1) (omega (arith, low))

-- a linear criterion with steps has one column, with the weight of the level
weighted-width : (t : DecisionTable) (i : ℕ) → has_weights t i ≡ true → width t i ≡ 1
weighted-width t i has = let parts = has_weights-parts t i has in linear_width t i parts.0 parts.1
  where
    linear_width : (t : DecisionTable) (i : ℕ) → is_linear t i ≡ true → 0 < steps t i → width t i ≡ 1
    linear_width t i is some = rw is (omega (arith, some))

weighted-entry : (t : DecisionTable) (i r : ℕ) → has_weights t i ≡ true → entry (block t i r) 0 ≡ weight t i r
weighted-entry t i r has = let wide = weighted-width t i has in block-linear t i r 0 (has_weights-parts t i has).0 (omega (arith, wide))

pub entry-value_row_weighted : (t : DecisionTable) (a i : ℕ) → i < length t.criteria → has_weights t i ≡ true → entry (value_row t a) (column t i 1) ≡ weight t i (rank t a i)
entry-value_row_weighted t a i criterion has =
    let wide = weighted-width t i has in
    entry-value_row t a i 1 criterion (omega arith) (omega (arith, wide)) ∙ weighted-entry t i (rank t a i) has
