-- Rows of forms made column by column and criterion by criterion; their entries are narrow.
use Rattle.std.proofs.Common.{◌≡◌, ℕ, zero, suc, ◌+◌, ◌*◌, ◌≤◌, ◌<◌, List, [], ◌∷◌, ◌++◌, length, map, ℤ, pos, ◌-ℤ◌, unsigned_abs, refl, ap, ap₂, sym, ◌∙◌, subst, arith, append_assoc}
use Rattle.std.specs.Prelude.{FitsSigned, ◌^◌}
use Rattle.std.specs.Int.{w64, w128}
use mir.Val.{to_z, of_z}
use Rattle.std.specs.List.{AllByRecursion, flat_map, range_with_len}
use Rattle.std.proofs.lemmas.Int.{ints, to_z-of_z}
use Rattle.std.proofs.lemmas.List.{append-nil}
use Rattle.std.proofs.lemmas.List.FromFn.{fill_by_all, map-range_with_len_more, length-map-range_with_len}
use Rattle.std.proofs.lemmas.List.Concat.{flat_map-append}
use Rattle.ror_integers.specs.Vectors.{entry, row_difference}
use Rattle.ror_integers.proofs.Rows.{entry-row_difference}
use Rattle.ror_integers.proofs.Parts.{row_difference-append}
use Rattle.ror_text.proofs.Everywhere.{all-append}
use Rattle.ror_text.proofs.ListLemmas.{range_more}
use Rattle.ror_statement.specs.declared.comparison.Form.{Form}
use Rattle.ror_statement.specs.declared.comparison.Form.TheVariants.{Value, Strength}
use Rattle.ror_table.specs.Blocks.{block}
use Rattle.ror_table.specs.Table.{DecisionTable, IsTable, rank, width}
use Rattle.ror_table.proofs.BlockLemmas.{length-block, entry-block-zero, entry-block-small}
use Rattle.ror_system.specs.System.{IsNarrow}
use Rattle.ror_rows.specs.declared.differences.Ranks.{Ranks}
use Rattle.ror_rows.specs.Rows.{rank_in, form_row}
use Rattle.ror_rows.specs.Steps.{ranks_of, entry_at}

-- the columns of one criterion, as they are made
abbrev pub form_block : DecisionTable → Form → ℕ → List ℤ
form_block t form i = map (entry_at t i (ranks_of t form i)) (range_with_len 0 (width t i))

-- ---- blocks column by column
block-columns : (t : DecisionTable) (i r : ℕ) → block t i r ≡ map (λ k. entry (block t i r) k) (range_with_len 0 (width t i))
block-columns t i r = fill_by_all (λ k. entry (block t i r) k) (block t i r) (width t i) (pos 0) (length-block t i r) (λ j below. refl)

flat_same : (f g : ℕ → List ℤ) → ((i : ℕ) → f i ≡ g i) → (is : List ℕ) → flat_map f is ≡ flat_map g is
flat_same f g same [] = refl
flat_same f g same (i ∷ is) = ap₂ (λ (xs ys : List ℤ). xs ++ ys) (same i) (flat_same f g same is)

map_same : (f g : ℕ → ℤ) → ((k : ℕ) → f k ≡ g k) → (ks : List ℕ) → map f ks ≡ map g ks
map_same f g same [] = refl
map_same f g same (k ∷ ks) = ap₂ (λ (x : ℤ) (xs : List ℤ). x ∷ xs) (same k) (map_same f g same ks)

blocks-columns : (t : DecisionTable) (r : ℕ → ℕ) (is : List ℕ)
    → flat_map (λ i. block t i (r i)) is ≡ flat_map (λ i. map (λ k. entry (block t i (r i)) k) (range_with_len 0 (width t i))) is
blocks-columns t r is = flat_same (λ i. block t i (r i)) (λ i. map (λ k. entry (block t i (r i)) k) (range_with_len 0 (width t i))) (λ i. block-columns t i (r i)) is

-- a difference of rows made column by column
difference-map : (f g : ℕ → ℤ) (n : ℕ) → row_difference (map f (range_with_len 0 n)) (map g (range_with_len 0 n)) ≡ map (λ k. f k -ℤ g k) (range_with_len 0 n)
difference-map f g n = difference_from f g (range_with_len 0 n)
  where
    difference_from : (f g : ℕ → ℤ) (ks : List ℕ) → row_difference (map f ks) (map g ks) ≡ map (λ k. f k -ℤ g k) ks
    difference_from f g [] = refl
    difference_from f g (k ∷ ks) = ap₂ (λ (x : ℤ) (xs : List ℤ). x ∷ xs) (entry-row_difference (f k ∷ map f ks) (g k ∷ map g ks) 0) (difference_from f g ks)

difference-columns : (t : DecisionTable) (f g : ℕ → ℕ → ℤ) (n s : ℕ)
    → row_difference (flat_map (λ i. map (f i) (range_with_len 0 (width t i))) (range_with_len s n)) (flat_map (λ i. map (g i) (range_with_len 0 (width t i))) (range_with_len s n))
    ≡ flat_map (λ i. map (λ k. f i k -ℤ g i k) (range_with_len 0 (width t i))) (range_with_len s n)
difference-columns t f g zero s = refl
difference-columns t f g (suc n) s =
    row_difference-append (map (f s) (range_with_len 0 (width t s))) (flat_map (λ i. map (f i) (range_with_len 0 (width t i))) (range_with_len (s + 1) n)) (map (g s) (range_with_len 0 (width t s))) (flat_map (λ i. map (g i) (range_with_len 0 (width t i))) (range_with_len (s + 1) n))
    (length-map-range_with_len (f s) 0 (width t s) ∙ sym (length-map-range_with_len (g s) 0 (width t s)))
    ∙ ap₂ (λ (xs ys : List ℤ). xs ++ ys) (difference-map (f s) (g s) (width t s)) (difference-columns t f g n (s + 1))

zero_entry : (t : DecisionTable) (i k : ℕ) → entry (block t i 0) k ≡ pos 0
zero_entry t i k = entry-block-zero t i k

-- the row of a form is made of its blocks
pub form_row-blocks : (t : DecisionTable) (form : Form) → form_row t form ≡ flat_map (form_block t form) (range_with_len 0 (length t.criteria))
form_row-blocks t (Value a b) =
    let is = range_with_len 0 (length t.criteria) in
    ap₂ row_difference (blocks-columns t (rank t a) is) (blocks-columns t (rank t b) is)
    ∙ difference-columns t (λ i k. entry (block t i (rank t a i)) k) (λ i k. entry (block t i (rank t b i)) k) (length t.criteria) 0
    ∙ flat_same (λ i. map (λ k. entry (block t i (rank t a i)) k -ℤ entry (block t i (rank t b i)) k) (range_with_len 0 (width t i))) (form_block t (Value a b)) (λ i. map_same _ _ (λ k. less_nothing (entry (block t i (rank t a i)) k) (entry (block t i (rank t b i)) k) (entry (block t i 0) k) (zero_entry t i k)) (range_with_len 0 (width t i))) is
  where
    less_nothing : (x y z : ℤ) → z ≡ pos 0 → x -ℤ y ≡ (x -ℤ z) -ℤ (y -ℤ z)
    less_nothing x y z none = omega (arith, ints)
form_row-blocks t (Strength p q s) =
    let is = range_with_len 0 (length t.criteria) in
    let by : ℕ → ℕ → ℕ → ℤ = λ a i k. entry (block t i (rank_in t s a i)) k in
    ap₂ row_difference
    (ap₂ row_difference (blocks-columns t (rank_in t s p.first) is) (blocks-columns t (rank_in t s p.second) is) ∙ difference-columns t (by p.first) (by p.second) (length t.criteria) 0)
    (ap₂ row_difference (blocks-columns t (rank_in t s q.first) is) (blocks-columns t (rank_in t s q.second) is) ∙ difference-columns t (by q.first) (by q.second) (length t.criteria) 0)
    ∙ difference-columns t (λ i k. by p.first i k -ℤ by p.second i k) (λ i k. by q.first i k -ℤ by q.second i k) (length t.criteria) 0

-- ---- loops

-- one column more
pub columns_more : (f : ℕ → ℤ) (k : ℕ) (old row after : List ℤ) (x : ℤ) → row ≡ old ++ map f (range_with_len 0 k) → after ≡ row ++ (x ∷ []) → x ≡ f k → after ≡ old ++ map f (range_with_len 0 (k + 1))
columns_more f k old row after x so_far pushed is =
    pushed
    ∙ ap₂ (λ (xs : List ℤ) (y : ℤ). xs ++ (y ∷ [])) so_far is
    ∙ append_assoc old (map f (range_with_len 0 k)) (f k ∷ [])
    ∙ ap (λ (xs : List ℤ). old ++ xs) (sym (map-range_with_len_more f 0 k k (omega arith)))

-- one criterion more
pub blocks_more : (f : ℕ → List ℤ) (i : ℕ) (row after : List ℤ) → row ≡ flat_map f (range_with_len 0 i) → after ≡ row ++ f i → after ≡ flat_map f (range_with_len 0 (i + 1))
blocks_more f i row after so_far pushed =
    pushed
    ∙ ap (λ (xs : List ℤ). xs ++ f i) so_far
    ∙ sym (ap (flat_map f) (range_more 0 i i (omega arith)) ∙ flat_map-append f (range_with_len 0 i) (i ∷ []) ∙ ap (λ (xs : List ℤ). flat_map f (range_with_len 0 i) ++ xs) (append-nil (f i)))

-- ---- narrow entries
narrow_sum : (x y u v : ℤ) → unsigned_abs x < 10 ^ 18 → unsigned_abs y < 10 ^ 18 → unsigned_abs u < 10 ^ 18 → unsigned_abs v < 10 ^ 18 → IsNarrow ((x -ℤ y) -ℤ (u -ℤ v))
narrow_sum x y u v a b c d =
    let sum : unsigned_abs ((x -ℤ y) -ℤ (u -ℤ v)) < 4 * 10 ^ 18 = omega (arith, ints) in
    omega (arith, sum)

entry_at-narrow : (t : DecisionTable) (i : ℕ) → IsTable t → i < length t.criteria → (r : Ranks) (k : ℕ) → IsNarrow (entry_at t i r k)
entry_at-narrow t i table within r k = narrow_sum (entry (block t i r.first.0) k) (entry (block t i r.first.1) k) (entry (block t i r.second.0) k) (entry (block t i r.second.1) k) (entry-block-small t i r.first.0 k table within) (entry-block-small t i r.first.1 k table within) (entry-block-small t i r.second.0 k table within) (entry-block-small t i r.second.1 k table within)

map-narrow : (t : DecisionTable) (i : ℕ) → IsTable t → i < length t.criteria → (r : Ranks) (ks : List ℕ) → AllByRecursion IsNarrow (map (entry_at t i r) ks)
map-narrow t i table within r [] = tt
map-narrow t i table within r (k ∷ ks) = (entry_at-narrow t i table within r k, map-narrow t i table within r ks)

flat-narrow : (t : DecisionTable) (form : Form) → IsTable t → (n s : ℕ) → s + n ≤ length t.criteria → AllByRecursion IsNarrow (flat_map (form_block t form) (range_with_len s n))
flat-narrow t form table zero s within = tt
flat-narrow t form table (suc n) s within = all-append IsNarrow (form_block t form s) (flat_map (form_block t form) (range_with_len (s + 1) n)) (map-narrow t s table (omega (arith, within)) (ranks_of t form s) (range_with_len 0 (width t s))) (flat-narrow t form table n (s + 1) (omega (arith, within)))

pub form_row-narrow : (t : DecisionTable) (form : Form) → IsTable t → AllByRecursion IsNarrow (form_row t form)
form_row-narrow t form table = subst (AllByRecursion IsNarrow) (sym (form_row-blocks t form)) (flat-narrow t form table (length t.criteria) 0 (omega arith))

-- ---- entries of 128 bits
-- a number of 64 bits, as it is taken for one of 128
pub widened : (x y : ℤ) → FitsSigned w64 x → FitsSigned w128 y → y ≡ to_z w64 (of_z w64 x) → to_z w128 (of_z w128 y) ≡ x
widened x y f g e = to_z-of_z w128 y g ∙ e ∙ to_z-of_z w64 x f

pub fits_difference : (x y : ℤ) → unsigned_abs x < 10 ^ 18 → unsigned_abs y < 10 ^ 18 → FitsSigned w128 (x -ℤ y)
fits_difference x y a b = omega (arith, ints, a, b)

pub fits_entry : (x y u v : ℤ) → unsigned_abs x < 10 ^ 18 → unsigned_abs y < 10 ^ 18 → unsigned_abs u < 10 ^ 18 → unsigned_abs v < 10 ^ 18 → FitsSigned w128 ((x -ℤ y) -ℤ (u -ℤ v))
fits_entry x y u v a b c d = omega (arith, ints, a, b, c, d)

pub small_entry : (x y u v : ℤ) → unsigned_abs x < 10 ^ 18 → unsigned_abs y < 10 ^ 18 → unsigned_abs u < 10 ^ 18 → unsigned_abs v < 10 ^ 18 → unsigned_abs ((x -ℤ y) -ℤ (u -ℤ v)) < 10 ^ 19
small_entry x y u v a b c d = omega (arith, ints, a, b, c, d)
