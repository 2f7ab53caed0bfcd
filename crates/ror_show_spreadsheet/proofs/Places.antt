-- The first of some values that passes a test.
use Rattle.std.proofs.Common.{◌≡◌, ℕ, suc, Bool, List, [], ◌∷◌, length, map, refl, ap}
use Rattle.std.specs.List.{position_or_len}
use Rattle.std.specs.Prelude.{position}

first_map : {A B : Type 0} (test : B → Bool) (f : A → B) (xs : List A) → position_or_len test (map f xs) ≡ position_or_len (λ x. test (f x)) xs
first_map test f [] = refl
first_map test f (x ∷ xs) = rw (first_map test f xs) refl

size_map : {A B : Type 0} (f : A → B) (xs : List A) → length (map f xs) ≡ length xs
size_map f [] = refl
size_map f (x ∷ xs) = ap (λ (n : ℕ). suc n) (size_map f xs)

pub position_map : {A B : Type 0} (test : B → Bool) (f : A → B) (xs : List A) → position test (map f xs) ≡ position (λ x. test (f x)) xs
position_map test f xs = rw (first_map test f xs, size_map f xs) refl
