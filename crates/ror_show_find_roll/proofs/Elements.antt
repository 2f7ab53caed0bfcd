-- What a list contains, and how many of its elements pass a test.
use Rattle.std.proofs.Common.{◌≡◌, ℕ, zero, suc, ◌+◌, ◌-◌, ◌<◌, Bool, List, [], ◌∷◌, ◌++◌, refl, ap, sym, ◌∙◌, arith, length, take, filter, count_by, get_or, Contains, option_to_list, inl, inr}
use Rattle.std.specs.Prelude.{◌⊎◌, slice_get}
use Rattle.std.proofs.lemmas.List.{length-append}
use Rattle.std.proofs.lemmas.List.Elements.{filter-append}
use Rattle.std.proofs.lemmas.List.Sums.{length-filter}
use Rattle.ror_show_find_roll.specs.declared.survivor.Survivor.{Survivor}
use Rattle.ror_show_find_roll.specs.Roll.{last_of}

-- how many pass, by recursion
abbrev pub many : {X : Type 0} → (X → Bool) → List X → ℕ
many p xs = length (filter p xs)

pub many-count : {X : Type 0} (p : X → Bool) (xs : List X) → count_by p xs ≡ many p xs
many-count p xs = sym (length-filter p xs)

pub many-append : {X : Type 0} (p : X → Bool) (xs ys : List X) → many p (xs ++ ys) ≡ many p xs + many p ys
many-append {X} p xs ys = ap (λ (zs : List X). length zs) (filter-append p xs ys) ∙ length-append (filter p xs) (filter p ys)

pub nothing-in : {X : Type 0} (x : X) → Contains [] x → ⊥
nothing-in x there = omega (arith, there.1)

pub only-in : {X : Type 0} (x y : X) → Contains (y ∷ []) x → y ≡ x
only-in {X} x y there = at there.0 there.1 there.2
  where
    at : (k : ℕ) → k < 1 → get_or (y ∷ []) k x ≡ x → y ≡ x
    at zero below is = is
    at (suc k) below is = absurd (omega (arith, below))

pub one-in : {X : Type 0} (x : X) → Contains (x ∷ []) x
one-in x = (0, omega arith, refl)

pub first-or-later : {X : Type 0} (x y : X) (xs : List X) → Contains (y ∷ xs) x → (y ≡ x) ⊎ Contains xs x
first-or-later {X} x y xs there = at there.0 there.1 there.2
  where
    at : (k : ℕ) → k < suc (length xs) → get_or (y ∷ xs) k x ≡ x → (y ≡ x) ⊎ Contains xs x
    at zero below is = inl is
    at (suc k) below is = inr (k, omega (arith, below), is)

-- a list is all but its last element, and that one
apart-at : (xs : List Survivor) (k : ℕ) → length xs ≡ suc k → xs ≡ take k xs ++ option_to_list (slice_get xs k)
apart-at [] k is = absurd (omega (arith, is))
apart-at (x ∷ []) zero is = refl
apart-at (x ∷ y ∷ ys) zero is = absurd (omega (arith, is))
apart-at (x ∷ xs) (suc k) is = ap (λ (zs : List Survivor). x ∷ zs) (apart-at xs k (omega (arith, is)))

pub last-apart : (xs : List Survivor) → xs ≡ take (length xs - 1) xs ++ option_to_list (last_of xs)
last-apart [] = refl
last-apart (x ∷ xs) =
    let less : suc (length xs) - 1 ≡ length xs = omega arith in
    apart-at (x ∷ xs) (length xs) refl ∙ ap (λ (k : ℕ). take k (x ∷ xs) ++ option_to_list (slice_get (x ∷ xs) k)) (sym less)
