-- What holds of each element of a list, by its pieces and by its places.
use Rattle.std.proofs.Common.{◌≡◌, ℕ, zero, suc, ◌+◌, ◌<◌, List, [], ◌∷◌, ◌++◌, length, map, drop, get_or, Some, refl, ap, ◌∙◌, arith, subst, sym}
use Rattle.std.specs.Prelude.{◌↔◌, slice_get}
use Rattle.std.specs.List.{AllByRecursion, flat_map}
use Rattle.std.proofs.Math.Seq.{drop-cons}

pub all-append : {X : Type 0} (P : X → Type 0) (xs ys : List X) → AllByRecursion P xs → AllByRecursion P ys → AllByRecursion P (xs ++ ys)
all-append P [] ys some more = more
all-append P (x ∷ xs) ys some more = (some.0, all-append P xs ys some.1 more)

pub all-front : {X : Type 0} (P : X → Type 0) (xs ys : List X) → AllByRecursion P (xs ++ ys) → AllByRecursion P xs
all-front P [] ys both = tt
all-front P (x ∷ xs) ys both = (both.0, all-front P xs ys both.1)

pub all-back : {X : Type 0} (P : X → Type 0) (xs ys : List X) → AllByRecursion P (xs ++ ys) → AllByRecursion P ys
all-back P [] ys both = both
all-back P (x ∷ xs) ys both = all-back P xs ys both.1

-- of each element's piece, so of all
pub all-pieces : {X Y : Type 0} (P : Y → Type 0) (f : X → List Y) (xs : List X) → AllByRecursion (λ x. AllByRecursion P (f x)) xs → AllByRecursion P (flat_map f xs)
all-pieces P f [] each = tt
all-pieces P f (x ∷ xs) each = all-append P (f x) (flat_map f xs) each.0 (all-pieces P f xs each.1)

pub each-piece : {X Y : Type 0} (P : Y → Type 0) (f : X → List Y) (xs : List X) → AllByRecursion P (flat_map f xs) → AllByRecursion (λ x. AllByRecursion P (f x)) xs
each-piece P f [] all = tt
each-piece P f (x ∷ xs) all = (all-front P (f x) (flat_map f xs) all, each-piece P f xs (all-back P (f x) (flat_map f xs) all))

pub all-map : {X Y : Type 0} (P : Y → Type 0) (f : X → Y) (xs : List X) → AllByRecursion (λ x. P (f x)) xs ↔ AllByRecursion P (map f xs)
all-map P f [] = (λ all. all, λ all. all)
all-map P f (x ∷ xs) = (λ all. (all.0, (all-map P f xs).0 all.1), λ all. (all.0, (all-map P f xs).1 all.1))

-- of what holds elsewhere, by what it brings
pub all-by : {X : Type 0} (P Q : X → Type 0) (xs : List X) → ((x : X) → P x → Q x) → AllByRecursion P xs → AllByRecursion Q xs
all-by P Q [] brings all = tt
all-by P Q (x ∷ xs) brings all = (brings x all.0, all-by P Q xs brings all.1)

pub all_at : {X : Type 0} (P : X → Type 0) (xs : List X) (i : ℕ) (x : X) → AllByRecursion P xs → slice_get xs i ≡ Some x → P x
all_at P [] i x all there = absurd cc
all_at P (y ∷ ys) zero x all there = let same : y ≡ x = cc in subst P same all.0
all_at P (y ∷ ys) (suc i) x all there = all_at P ys i x all.1 there

pub all_by_places : {X : Type 0} (P : X → Type 0) (xs : List X) → ((i : ℕ) (x : X) → slice_get xs i ≡ Some x → P x) → AllByRecursion P xs
all_by_places P [] each = tt
all_by_places P (x ∷ xs) each = (each 0 x refl, all_by_places P xs (λ i y there. each (suc i) y there))

-- the rest from a place on is the element there and the rest from the next place on
rest-is : {X : Type 0} (xs : List X) (i : ℕ) (d : X) → i < length xs → drop i xs ≡ get_or xs i d ∷ drop (i + 1) xs
rest-is xs i d within =
    let next : suc i ≡ i + 1 = omega arith in
    drop-cons xs i d within ∙ ap (λ (n : ℕ). get_or xs i d ∷ drop n xs) next

pub all-rest : {X : Type 0} (P : X → Type 0) (xs : List X) (i : ℕ) (d : X) → i < length xs → AllByRecursion P (drop i xs) → P (get_or xs i d) × AllByRecursion P (drop (i + 1) xs)
all-rest P xs i d within all = subst (AllByRecursion P) (rest-is xs i d within) all

pub rest-all : {X : Type 0} (P : X → Type 0) (xs : List X) (i : ℕ) (d : X) → i < length xs → P (get_or xs i d) → AllByRecursion P (drop (i + 1) xs) → AllByRecursion P (drop i xs)
rest-all P xs i d within here more = subst (AllByRecursion P) (sym (rest-is xs i d within)) (here, more)

-- the pieces from a place on, where those before it hold: one more holds, or it does not
pub pieces-more : {X Y : Type 0} (A : Type 0) (P : Y → Type 0) (f : X → List Y) (xs : List X) (i : ℕ) (d : X) → i < length xs → AllByRecursion P (f (get_or xs i d)) → A ↔ AllByRecursion P (flat_map f (drop i xs)) → A ↔ AllByRecursion P (flat_map f (drop (i + 1) xs))
pieces-more A P f xs i d within here same =
    let rest = rest-is xs i d within in
    (λ a. all-back P (f (get_or xs i d)) (flat_map f (drop (i + 1) xs)) (subst (λ ys. AllByRecursion P (flat_map f ys)) rest (same.0 a)), λ all. same.1 (subst (λ ys. AllByRecursion P (flat_map f ys)) (sym rest) (all-append P (f (get_or xs i d)) (flat_map f (drop (i + 1) xs)) here all)))

pub pieces-fail : {X Y : Type 0} (A : Type 0) (P : Y → Type 0) (f : X → List Y) (xs : List X) (i : ℕ) (d : X) → i < length xs → (AllByRecursion P (f (get_or xs i d)) → ⊥) → A ↔ AllByRecursion P (flat_map f (drop i xs)) → A → ⊥
pieces-fail A P f xs i d within fails same a =
    fails (all-front P (f (get_or xs i d)) (flat_map f (drop (i + 1) xs)) (subst (λ ys. AllByRecursion P (flat_map f ys)) (rest-is xs i d within) (same.0 a)))
