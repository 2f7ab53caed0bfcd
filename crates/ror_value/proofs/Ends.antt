-- The greatest and the least of the numbers of those that pass a test, and what holds of each value that is found.
use Rattle.std.proofs.Common.{◌≡◌, ◌↔◌, ℕ, ◌≤◌, true, false, List, [], ◌∷◌, Option, Some, None, map, ℤ, ◌≤ℤ◌, refl, subst, arith}
use Rattle.std.specs.Prelude.{Bool, max, min, int_le, slice_get}
use Rattle.std.specs.List.{AllByRecursion, filter, filter_map, fold}
use Rattle.std.proofs.lemmas.Int.{ints}
use Rattle.ror_text.proofs.Everywhere.{all_at, all_by_places}

-- the greatest of numbers is at most h exactly where each is; the least at least h
pub fold-max : (h a : ℕ) (xs : List ℕ) → (fold max a xs ≤ h) ↔ ((a ≤ h) × AllByRecursion (λ x. x ≤ h) xs)
fold-max h a [] = (λ le. (le, tt), λ both. both.0)
fold-max h a (x ∷ xs) =
    let rest = fold-max h (max a x) xs in
    (λ le. let both = rest.0 le in let top = both.0 in (omega (arith, top), (omega (arith, top), both.1)), λ all. let first = all.0 in let second = all.1.0 in rest.1 (omega (arith, first, second), all.1.1))

pub fold-min : (h a : ℕ) (xs : List ℕ) → (h ≤ fold min a xs) ↔ ((h ≤ a) × AllByRecursion (λ x. h ≤ x) xs)
fold-min h a [] = (λ le. (le, tt), λ both. both.0)
fold-min h a (x ∷ xs) =
    let rest = fold-min h (min a x) xs in
    (λ le. let both = rest.0 le in let low = both.0 in (omega (arith, low), (omega (arith, low), both.1)), λ all. let first = all.0 in let second = all.1.0 in rest.1 (omega (arith, first, second), all.1.1))

-- of the numbers of those that pass a test, each exactly where each passing one has it
pub all-filtered : {X : Type 0} (P : ℕ → Type 0) (f : X → ℕ) (test : X → Bool) (xs : List X) → AllByRecursion P (map f (filter test xs)) ↔ AllByRecursion (λ x. test x ≡ true → P (f x)) xs
all-filtered P f test [] = (λ all. tt, λ all. tt)
all-filtered P f test (x ∷ xs) =
    let rest = all-filtered P f test xs in
    by_test (test x) refl rest
  where
    by_test : (b : Bool) → test x ≡ b → AllByRecursion P (map f (filter test xs)) ↔ AllByRecursion (λ x. test x ≡ true → P (f x)) xs → AllByRecursion P (map f (filter test (x ∷ xs))) ↔ AllByRecursion (λ x. test x ≡ true → P (f x)) (x ∷ xs)
    by_test true is rest = rw is (λ all. (λ passes. all.0, rest.0 all.1), λ all. (all.0 refl, rest.1 all.1))
    by_test false is rest = rw is (λ all. (λ passes. absurd cc, rest.0 all), λ all. rest.1 all.1)

pub all-both : {X : Type 0} (P Q : X → Type 0) (xs : List X) → (AllByRecursion P xs × AllByRecursion Q xs) ↔ AllByRecursion (λ x. P x × Q x) xs
all-both P Q [] = (λ both. tt, λ all. (tt, tt))
all-both P Q (x ∷ xs) =
    let rest = all-both P Q xs in
    (λ both. ((both.0.0, both.1.0), rest.0 (both.0.1, both.1.1)), λ all. ((all.0.0, (rest.1 all.1).0), (all.0.1, (rest.1 all.1).1)))

pub le_is : (x y : ℤ) → int_le x y ≡ true → x ≤ℤ y
le_is x y is = grind (arith, ints)

pub is_le : (x y : ℤ) → x ≤ℤ y → int_le x y ≡ true
is_le x y le = grind (arith, ints)

-- of the values that elements have, each exactly where it holds of what an element has
pub all-found : {X Y : Type 0} (P : Y → Type 0) (f : X → Option Y) (xs : List X) → AllByRecursion P (filter_map f xs) ↔ AllByRecursion (λ x. (y : Y) → f x ≡ Some y → P y) xs
all-found P f [] = (λ all. tt, λ all. tt)
all-found P f (x ∷ xs) =
    let rest = all-found P f xs in
    by_value (f x) refl rest
  where
    by_value : (m : Option _) → f x ≡ m → AllByRecursion P (filter_map f xs) ↔ AllByRecursion (λ x. (y : _) → f x ≡ Some y → P y) xs → AllByRecursion P (filter_map f (x ∷ xs)) ↔ AllByRecursion (λ x. (y : _) → f x ≡ Some y → P y) (x ∷ xs)
    by_value None is rest = rw is (λ all. (λ y found. absurd cc, rest.0 all), λ all. rest.1 all.1)
    by_value (Some z) is rest = rw is (λ all. (λ y found. let same : z ≡ y = cc in subst P same all.0, rest.0 all.1), λ all. (all.0 z refl, rest.1 all.1))

-- the same place by place
pub all-found_at : {X Y : Type 0} (P : Y → Type 0) (f : X → Option Y) (xs : List X) → AllByRecursion P (filter_map f xs) ↔ ((k : ℕ) (x : X) (y : Y) → slice_get xs k ≡ Some x → f x ≡ Some y → P y)
all-found_at P f xs =
    let each = all-found P f xs in
    (λ all k x y there is. all_at (λ x. (y : _) → f x ≡ Some y → P y) xs k x (each.0 all) there y is, λ all. each.1 (all_by_places (λ x. (y : _) → f x ≡ Some y → P y) xs (λ k x there y is. all k x y there is)))
