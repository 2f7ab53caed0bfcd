-- Lists that leave out elements of another, in its order; and that fewer statements take no more rows.
use Rattle.std.proofs.Common.{◌≡◌, ◌⊎◌, inl, inr, ℕ, zero, suc, ◌+◌, ◌≤◌, Bool, true, List, [], ◌∷◌, ◌++◌, map, take, length, Some, refl, sym, ap, subst, arith}
use Rattle.std.specs.Prelude.{slice_get, option_to_list}
use Rattle.std.specs.List.{AllByRecursion, filter, flat_map}
use Rattle.std.proofs.lemmas.Bool.{cases_Bool}
use Rattle.std.proofs.lemmas.List.Sums.{sum_by-append}
use Rattle.ror_statement.specs.declared.comparison.Comparison.{Comparison}
use Rattle.ror_statement.specs.declared.statement.Statement.{Statement}
use Rattle.ror_statement.specs.Statements.{comparison_of, outranking, class_comparisons}
use Rattle.ror_statement.specs.Names.{IsValid}
use Rattle.ror_statement.specs.RowNumbers.{rows_of, rows_number, row_count, IsLawful}

-- the first list is the second without some of its elements
abbrev pub IsSublist : {X : Type 0} → List X → List X → Type 0
IsSublist [] ys = Unit {0}
IsSublist (x ∷ xs) [] = ⊥
IsSublist (x ∷ xs) (y ∷ ys) = ((x ≡ y) × IsSublist xs ys) ⊎ IsSublist (x ∷ xs) ys

pub sublist-skip : {X : Type 0} (xs : List X) (y : X) (ys : List X) → IsSublist xs ys → IsSublist xs (y ∷ ys)
sublist-skip [] y ys h = tt
sublist-skip (x ∷ xs) y ys h = inr h

pub sublist-all : {X : Type 0} (xs : List X) → IsSublist xs xs
sublist-all [] = tt
sublist-all (x ∷ xs) = inl (refl, sublist-all xs)

pub sublist-append : {X : Type 0} (xs ys zs us : List X) → IsSublist xs ys → IsSublist zs us → IsSublist (xs ++ zs) (ys ++ us)
sublist-append [] [] zs us h k = k
sublist-append [] (y ∷ ys) zs us h k = sublist-skip zs y (ys ++ us) (sublist-append [] ys zs us tt k)
sublist-append (x ∷ xs) [] zs us h k = absurd h
sublist-append (x ∷ xs) (y ∷ ys) zs us (inl h) k = inl (h.0, sublist-append xs ys zs us h.1 k)
sublist-append (x ∷ xs) (y ∷ ys) zs us (inr h) k = inr (sublist-append (x ∷ xs) ys zs us h k)

pub sublist-map : {X Y : Type 0} (f : X → Y) (xs ys : List X) → IsSublist xs ys → IsSublist (map f xs) (map f ys)
sublist-map f [] ys h = tt
sublist-map f (x ∷ xs) [] h = absurd h
sublist-map f (x ∷ xs) (y ∷ ys) (inl h) = inl (ap f h.0, sublist-map f xs ys h.1)
sublist-map f (x ∷ xs) (y ∷ ys) (inr h) = inr (sublist-map f (x ∷ xs) ys h)

-- what is kept before a place and the element there are of the list, and of what is kept where that element is
pub sublist-with : {X : Type 0} (p : X → Bool) (xs : List X) (k : ℕ) (x : X) → slice_get xs k ≡ Some x → IsSublist (filter p (take k xs) ++ x ∷ []) xs
sublist-with p [] k x there = absurd cc
sublist-with p (y ∷ ys) zero x there = let same : x ≡ y = cc in inl (same, tt)
sublist-with p (y ∷ ys) (suc k) x there =
    let rest = sublist-with p ys k x there in
    elim (cases_Bool (p y)) [
      | inl yes_ ↦ rw yes_ (inl (refl, rest))
      | inr no_ ↦ rw no_ (sublist-skip (filter p (take k ys) ++ x ∷ []) y ys rest)
    ]

pub sublist-kept : {X : Type 0} (p : X → Bool) (xs : List X) (k : ℕ) (x : X) → slice_get xs k ≡ Some x → p x ≡ true → IsSublist (filter p (take k xs) ++ x ∷ []) (filter p xs)
sublist-kept p [] k x there keeps = absurd cc
sublist-kept p (y ∷ ys) zero x there keeps = let same : x ≡ y = cc in let kept : p y ≡ true = cc in rw kept (inl (same, tt))
sublist-kept p (y ∷ ys) (suc k) x there keeps =
    let rest = sublist-kept p ys k x there keeps in
    elim (cases_Bool (p y)) [
      | inl yes_ ↦ rw yes_ (inl (refl, rest))
      | inr no_ ↦ rw no_ rest
    ]

pub sublist-filter : {X : Type 0} (p : X → Bool) (xs : List X) → IsSublist (filter p xs) xs
sublist-filter p [] = tt
sublist-filter p (x ∷ xs) = elim (cases_Bool (p x)) [
  | inl yes_ ↦ rw yes_ (inl (refl, sublist-filter p xs))
  | inr no_ ↦ rw no_ (sublist-skip (filter p xs) x xs (sublist-filter p xs))
]

-- ---- what holds of a list's elements

pub length-sublist : {X : Type 0} (xs ys : List X) → IsSublist xs ys → length xs ≤ length ys
length-sublist [] ys h = omega arith
length-sublist (x ∷ xs) [] h = absurd h
length-sublist (x ∷ xs) (y ∷ ys) (inl h) = let l = length-sublist xs ys h.1 in omega arith
length-sublist (x ∷ xs) (y ∷ ys) (inr h) = let l = length-sublist (x ∷ xs) ys h in omega arith

pub all-sublist : {X : Type 0} (P : X → Type 0) (xs ys : List X) → IsSublist xs ys → AllByRecursion P ys → AllByRecursion P xs
all-sublist P [] ys h all = tt
all-sublist P (x ∷ xs) [] h all = absurd h
all-sublist P (x ∷ xs) (y ∷ ys) (inl h) all = (subst P (sym h.0) all.0, all-sublist P xs ys h.1 all.1)
all-sublist P (x ∷ xs) (y ∷ ys) (inr h) all = all-sublist P (x ∷ xs) ys h all.1

-- ---- statements

rows_number-append : (xs ys : List Comparison) → rows_number (xs ++ ys) ≡ rows_number xs + rows_number ys
rows_number-append xs ys = sum_by-append (λ (c : Comparison). rows_of c.relation) xs ys

fewer_rows : (few many : Statement → List Comparison) → ((s : Statement) → rows_number (few s) ≤ rows_number (many s)) → (xs ys : List Statement) → IsSublist xs ys → rows_number (flat_map few xs) ≤ rows_number (flat_map many ys)
fewer_rows few many le [] ys h = omega arith
fewer_rows few many le (x ∷ xs) [] h = absurd h
fewer_rows few many le (x ∷ xs) (y ∷ ys) (inl h) =
    let rest = fewer_rows few many le xs ys h.1 in
    let here = le x in
    let same : rows_number (many x) ≡ rows_number (many y) = ap (λ z. rows_number (many z)) h.0 in
    omega (arith, rows_number-append (few x) (flat_map few xs), rows_number-append (many y) (flat_map many ys), rest, here, same)
fewer_rows few many le (x ∷ xs) (y ∷ ys) (inr h) =
    let rest = fewer_rows few many le (x ∷ xs) ys h in
    omega (arith, rows_number-append (many y) (flat_map many ys), rest)

-- fewer statements take no more rows
pub row_count-sublist : (xs ys : List Statement) → IsSublist xs ys → row_count xs ≤ row_count ys
row_count-sublist xs ys h =
    let own = fewer_rows (λ s. option_to_list (comparison_of s)) (λ s. option_to_list (comparison_of s)) (λ s. omega arith) xs ys h in
    let pairs = fewer_rows (λ r. flat_map (outranking r) xs) (λ r. flat_map (outranking r) ys) (λ r. fewer_rows (outranking r) (outranking r) (λ s. omega arith) xs ys h) xs ys h in
    let left = rows_number-append (flat_map (λ s. option_to_list (comparison_of s)) xs) (class_comparisons xs) in
    let right = rows_number-append (flat_map (λ s. option_to_list (comparison_of s)) ys) (class_comparisons ys) in
    omega arith

-- fewer statements are lawful where more are
pub lawful-sublist : (alternatives criteria classes : ℕ) (xs ys : List Statement) → IsSublist xs ys → IsLawful alternatives criteria classes ys → IsLawful alternatives criteria classes xs
lawful-sublist alternatives criteria classes xs ys h lawful =
    let few = lawful.few in
    let rows = lawful.rows in
    record {
      few = omega (arith, length-sublist xs ys h, few);
      rows = omega (arith, row_count-sublist xs ys h, rows);
      each_valid = all-sublist (IsValid alternatives criteria classes) xs ys h lawful.each_valid;
    }
