-- The lexicographic order of lists and of scaled lists, and lists whose first entry that is not 0 is above 0.
use Rattle.std.proofs.Common.{◌≡◌, ◌⊎◌, ◌↔◌, inl, inr, List, [], ◌∷◌, length, ℤ, pos, ◌+ℤ◌, ◌*ℤ◌, ◌<ℤ◌, refl, ap, ap₂, sym, ◌∙◌, subst, arith, int_cmp, Ordering, Less, Equal, Greater}
use Rattle.std.specs.Ordering.{ordering_reverse, ordering_then}
use Rattle.std.specs.Cmp.{IsTotalOrder}
use Rattle.std.proofs.lemmas.Cmp.{int_cmp_total, lists_total, tied_itself}
use Rattle.ror_integers.specs.Vectors.{sum_of_rows, scaled_row, row_difference}
use Rattle.ror_integers.specs.LexicographicOrder.{lexicographic_cmp, scaled_lexicographic_cmp, LexicographicallyPositive}
use Rattle.ror_integers.proofs.Ring.{sums, product_comm, minus_one-product, product-zero}
use Rattle.ror_integers.proofs.Order.{product_positive, positive_factor, cancel}
use Rattle.ror_integers.proofs.Rows.{scaled_row-scaled_row}
use Rattle.ror_integers.proofs.Comparisons.{less_means, equal_means, is_less, is_equal, int_cmp-scaled}

pub lexicographic_total : IsTotalOrder lexicographic_cmp
lexicographic_total = lists_total int_cmp_total

pub lexicographic_cmp_reflexive : (xs : List ℤ) → lexicographic_cmp xs xs ≡ Equal
lexicographic_cmp_reflexive xs = tied_itself lexicographic_total xs

then_equal : (a b : Ordering) → ordering_then a b ≡ Equal → (a ≡ Equal) × (b ≡ Equal)
then_equal Less b e = absurd (cc)
then_equal Equal b e = (refl, e)
then_equal Greater b e = absurd (cc)

then_less : (a b : Ordering) → ordering_then a b ≡ Less → (a ≡ Less) ⊎ ((a ≡ Equal) × (b ≡ Less))
then_less Less b e = inl refl
then_less Equal b e = inr (refl, e)
then_less Greater b e = absurd (cc)

pub lexicographic_equal : (xs ys : List ℤ) → (lexicographic_cmp xs ys ≡ Equal) ↔ (xs ≡ ys)
lexicographic_equal xs ys = (out xs ys, λ e. subst (λ (zs : List ℤ). lexicographic_cmp xs zs ≡ Equal) e (lexicographic_cmp_reflexive xs))
  where
    out : (xs ys : List ℤ) → lexicographic_cmp xs ys ≡ Equal → xs ≡ ys
    out [] [] e = refl
    out [] (y ∷ ys) e = absurd (cc)
    out (x ∷ xs) [] e = absurd (cc)
    out (x ∷ xs) (y ∷ ys) e =
        let (a, b) = then_equal (int_cmp x y) (lexicographic_cmp xs ys) e in
        ap₂ (λ (z : ℤ) (zs : List ℤ). z ∷ zs) (equal_means x y a) (out xs ys b)

pub lexicographic_of_scaled_rows : (k : ℤ) (xs ys : List ℤ) → pos 0 <ℤ k → lexicographic_cmp (scaled_row k xs) (scaled_row k ys) ≡ lexicographic_cmp xs ys
lexicographic_of_scaled_rows k [] [] h = refl
lexicographic_of_scaled_rows k [] (y ∷ ys) h = refl
lexicographic_of_scaled_rows k (x ∷ xs) [] h = refl
lexicographic_of_scaled_rows k (x ∷ xs) (y ∷ ys) h = ap₂ ordering_then (int_cmp-scaled k x y h) (lexicographic_of_scaled_rows k xs ys h)

-- ---- scaled lists
pub scaled_lexicographic_is : (p q : ℤ) (xs ys : List ℤ) → scaled_lexicographic_cmp p xs q ys ≡ lexicographic_cmp (scaled_row q xs) (scaled_row p ys)
scaled_lexicographic_is p q [] [] = refl
scaled_lexicographic_is p q [] (y ∷ ys) = refl
scaled_lexicographic_is p q (x ∷ xs) [] = refl
scaled_lexicographic_is p q (x ∷ xs) (y ∷ ys) = ap₂ ordering_then (ap₂ int_cmp (product_comm x q) (product_comm y p)) (scaled_lexicographic_is p q xs ys)

pub scaled_lexicographic_reflexive : (p : ℤ) (xs : List ℤ) → scaled_lexicographic_cmp p xs p xs ≡ Equal
scaled_lexicographic_reflexive p xs = scaled_lexicographic_is p p xs xs ∙ lexicographic_cmp_reflexive (scaled_row p xs)

pub scaled_lexicographic_reversed : (p q : ℤ) (xs ys : List ℤ) → scaled_lexicographic_cmp p xs q ys ≡ ordering_reverse (scaled_lexicographic_cmp q ys p xs)
scaled_lexicographic_reversed p q xs ys =
    scaled_lexicographic_is p q xs ys ∙ lexicographic_total.antisymm (scaled_row q xs) (scaled_row p ys) ∙ ap ordering_reverse (sym (scaled_lexicographic_is q p ys xs))

swapped : (k l : ℤ) (xs : List ℤ) → scaled_row k (scaled_row l xs) ≡ scaled_row l (scaled_row k xs)
swapped k l xs = scaled_row-scaled_row k l xs ∙ ap (λ (m : ℤ). scaled_row m xs) (product_comm k l) ∙ sym (scaled_row-scaled_row l k xs)

pub scaled_lexicographic_equal : (p q : ℤ) (xs ys : List ℤ) → (scaled_lexicographic_cmp p xs q ys ≡ Equal) ↔ (scaled_row q xs ≡ scaled_row p ys)
scaled_lexicographic_equal p q xs ys = (
  λ e. (lexicographic_equal (scaled_row q xs) (scaled_row p ys)).0 (sym (scaled_lexicographic_is p q xs ys) ∙ e),
  λ e. scaled_lexicographic_is p q xs ys ∙ (lexicographic_equal (scaled_row q xs) (scaled_row p ys)).1 e,
)

pub scaled_lexicographic_transitive : (p q s : ℤ) (xs ys zs : List ℤ) → pos 0 <ℤ p → pos 0 <ℤ q → pos 0 <ℤ s → scaled_lexicographic_cmp p xs q ys ≡ Less → scaled_lexicographic_cmp q ys s zs ≡ Less → scaled_lexicographic_cmp p xs s zs ≡ Less
scaled_lexicographic_transitive p q s xs ys zs hp hq hs a b =
    let c = lexicographic_of_scaled_rows s (scaled_row q xs) (scaled_row p ys) hs ∙ sym (scaled_lexicographic_is p q xs ys) ∙ a in
    let d = lexicographic_of_scaled_rows p (scaled_row s ys) (scaled_row q zs) hp ∙ sym (scaled_lexicographic_is q s ys zs) ∙ b in
    scaled_lexicographic_is p s xs zs
    ∙ sym (lexicographic_of_scaled_rows q (scaled_row s xs) (scaled_row p zs) hq)
    ∙ lexicographic_total.trans (scaled_row q (scaled_row s xs)) (scaled_row s (scaled_row p ys)) (scaled_row q (scaled_row p zs))
    (ap (λ (ws : List ℤ). lexicographic_cmp ws (scaled_row s (scaled_row p ys))) (swapped q s xs) ∙ c)
    (ap₂ lexicographic_cmp (swapped s p ys) (swapped q p zs) ∙ d)

pub scaled_lexicographic_congruent : (p q s : ℤ) (xs ys zs : List ℤ) → pos 0 <ℤ p → pos 0 <ℤ q → scaled_lexicographic_cmp p xs q ys ≡ Equal → scaled_lexicographic_cmp p xs s zs ≡ scaled_lexicographic_cmp q ys s zs
scaled_lexicographic_congruent p q s xs ys zs hp hq e =
    let f = (scaled_lexicographic_equal p q xs ys).0 e in
    scaled_lexicographic_is p s xs zs
    ∙ sym (lexicographic_of_scaled_rows q (scaled_row s xs) (scaled_row p zs) hq)
    ∙ ap₂ lexicographic_cmp (swapped q s xs ∙ ap (scaled_row s) f ∙ swapped s p ys) (swapped q p zs)
    ∙ lexicographic_of_scaled_rows p (scaled_row s ys) (scaled_row q zs) hp
    ∙ sym (scaled_lexicographic_is q s ys zs)

pub scaled_lexicographic_by_factor : (k p q : ℤ) (xs ys : List ℤ) → pos 0 <ℤ k → scaled_lexicographic_cmp (k *ℤ p) (scaled_row k xs) q ys ≡ scaled_lexicographic_cmp p xs q ys
scaled_lexicographic_by_factor k p q xs ys h =
    scaled_lexicographic_is (k *ℤ p) q (scaled_row k xs) ys
    ∙ ap₂ lexicographic_cmp (swapped q k xs) (sym (scaled_row-scaled_row k p ys))
    ∙ lexicographic_of_scaled_rows k (scaled_row q xs) (scaled_row p ys) h
    ∙ sym (scaled_lexicographic_is p q xs ys)

-- ---- lists that are lexicographically positive
pub lexicographically_positive-scaled_row : (k : ℤ) (xs : List ℤ) → pos 0 <ℤ k → LexicographicallyPositive xs → LexicographicallyPositive (scaled_row k xs)
lexicographically_positive-scaled_row k [] h p = p
lexicographically_positive-scaled_row k (x ∷ xs) h (inl p) = inl (product_positive k x h p)
lexicographically_positive-scaled_row k (x ∷ xs) h (inr p) = inr (ap (λ (y : ℤ). k *ℤ y) p.0 ∙ product-zero k, lexicographically_positive-scaled_row k xs h p.1)

pub lexicographically_positive_from_scaled_row : (k : ℤ) (xs : List ℤ) → pos 0 <ℤ k → LexicographicallyPositive (scaled_row k xs) → LexicographicallyPositive xs
lexicographically_positive_from_scaled_row k [] h p = p
lexicographically_positive_from_scaled_row k (x ∷ xs) h (inl p) = inl (positive_factor k x h p)
lexicographically_positive_from_scaled_row k (x ∷ xs) h (inr p) = inr (cancel k x (pos 0) h (p.0 ∙ sym (product-zero k)), lexicographically_positive_from_scaled_row k xs h p.1)

pub lexicographically_positive-sum_of_rows : (xs ys : List ℤ) → LexicographicallyPositive xs → LexicographicallyPositive ys → LexicographicallyPositive (sum_of_rows xs ys)
lexicographically_positive-sum_of_rows [] ys p q = q
lexicographically_positive-sum_of_rows (x ∷ xs) [] p q = p
lexicographically_positive-sum_of_rows (x ∷ xs) (y ∷ ys) (inl p) (inl q) = inl (omega (arith, sums))
lexicographically_positive-sum_of_rows (x ∷ xs) (y ∷ ys) (inl p) (inr q) = let e = q.0 in inl (omega (arith, sums))
lexicographically_positive-sum_of_rows (x ∷ xs) (y ∷ ys) (inr p) (inl q) = let e = p.0 in inl (omega (arith, sums))
lexicographically_positive-sum_of_rows (x ∷ xs) (y ∷ ys) (inr p) (inr q) =
    let e = p.0 in
    let f = q.0 in
    inr (omega (arith, sums), lexicographically_positive-sum_of_rows xs ys p.1 q.1)

-- of two lists of one length the second is greater exactly where it exceeds the first by a positive list
pub lexicographic_less : (xs ys : List ℤ) → length xs ≡ length ys → (lexicographic_cmp xs ys ≡ Less) ↔ LexicographicallyPositive (row_difference ys xs)
lexicographic_less xs ys e = (out xs ys e, back xs ys e)
  where
    out : (xs ys : List ℤ) → length xs ≡ length ys → lexicographic_cmp xs ys ≡ Less → LexicographicallyPositive (row_difference ys xs)
    out [] [] e l = absurd (cc)
    out [] (y ∷ ys) e l = absurd (omega arith)
    out (x ∷ xs) [] e l = absurd (omega arith)
    out (x ∷ xs) (y ∷ ys) e l = by (then_less (int_cmp x y) (lexicographic_cmp xs ys) l) (out xs ys (omega arith))
      where
        by : (int_cmp x y ≡ Less) ⊎ ((int_cmp x y ≡ Equal) × (lexicographic_cmp xs ys ≡ Less)) → (lexicographic_cmp xs ys ≡ Less → LexicographicallyPositive (row_difference ys xs)) → LexicographicallyPositive (row_difference (y ∷ ys) (x ∷ xs))
        by (inl a) f = let p = less_means x y a in inl (omega (arith, sums, minus_one-product x))
        by (inr a) f = let p = equal_means x y a.0 in inr (omega (arith, sums, minus_one-product x), f a.1)

    back : (xs ys : List ℤ) → length xs ≡ length ys → LexicographicallyPositive (row_difference ys xs) → lexicographic_cmp xs ys ≡ Less
    back [] [] e p = absurd p
    back [] (y ∷ ys) e p = absurd (omega arith)
    back (x ∷ xs) [] e p = absurd (omega arith)
    back (x ∷ xs) (y ∷ ys) e (inl p) = ap (λ (o : Ordering). ordering_then o (lexicographic_cmp xs ys)) (is_less x y (omega (arith, sums, minus_one-product x)))
    back (x ∷ xs) (y ∷ ys) e (inr p) =
        let q = p.0 in
        ap (λ (o : Ordering). ordering_then o (lexicographic_cmp xs ys)) (is_equal x y (omega (arith, sums, minus_one-product x))) ∙ back xs ys (omega arith) p.1

-- a list grows by a positive list of its length
pub lexicographic_grows : (xs ys : List ℤ) → length xs ≡ length ys → LexicographicallyPositive ys → lexicographic_cmp xs (sum_of_rows xs ys) ≡ Less
lexicographic_grows [] [] e p = absurd p
lexicographic_grows [] (y ∷ ys) e p = absurd (omega arith)
lexicographic_grows (x ∷ xs) [] e p = absurd (omega arith)
lexicographic_grows (x ∷ xs) (y ∷ ys) e (inl p) = ap (λ (o : Ordering). ordering_then o (lexicographic_cmp xs (sum_of_rows xs ys))) (is_less x (x +ℤ y) (omega (arith, sums)))
lexicographic_grows (x ∷ xs) (y ∷ ys) e (inr p) =
    let q = p.0 in
    ap (λ (o : Ordering). ordering_then o (lexicographic_cmp xs (sum_of_rows xs ys))) (is_equal x (x +ℤ y) (omega (arith, sums))) ∙ lexicographic_grows xs ys (omega arith) p.1
