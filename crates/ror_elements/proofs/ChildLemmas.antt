-- The last of some children.
use Rattle.std.proofs.Common.{◌≡◌, ℕ, List, [], ◌∷◌, ◌++◌, length, map, Option, Some, None, refl, sym, ap, ◌∙◌, arith, ◌+◌}
use Rattle.std.specs.Prelude.{MatchOption, option_map}
use Rattle.std.specs.Option.{option_to_list}
use Rattle.ror_elements.specs.Open.{last_of}

pub last_of-append : {A : Type 0} (xs : List A) (x : A) → last_of (xs ++ x ∷ []) ≡ Some x
last_of-append [] x = refl
last_of-append (y ∷ []) x = refl
last_of-append (y ∷ z ∷ more) x = last_of-append (z ∷ more) x

last_of-map : {A B : Type 0} (f : A → B) (xs : List A) → last_of (map f xs) ≡ option_map f (last_of xs)
last_of-map f [] = refl
last_of-map f (x ∷ []) = refl
last_of-map f (x ∷ y ∷ more) = last_of-map f (y ∷ more)

none_last : {A : Type 0} (xs : List A) → length xs ≡ 0 → last_of xs ≡ None
none_last [] e = refl
none_last (x ∷ xs) e = absurd (omega arith)

popped : {A : Type 0} (r : Option A) (items rest : List A) (n m : ℕ) → items ≡ rest ++ option_to_list r → MatchOption r ((n ≡ 0) × (m ≡ 0)) (λ _. m + 1 ≡ n) → n ≡ length items → r ≡ last_of items
popped None items rest n m e h len = sym (none_last items (sym len ∙ h.0))
popped (Some x) items rest n m e h len = sym (ap last_of e ∙ last_of-append rest x)

-- what is popped is seen as the last of what is seen
pub popped_of : {A B : Type 0} (f : A → B) (r : Option A) (items rest : List A) (n m : ℕ) (seen : List B) → items ≡ rest ++ option_to_list r → MatchOption r ((n ≡ 0) × (m ≡ 0)) (λ _. m + 1 ≡ n) → n ≡ length items → map f items ≡ seen → option_map f r ≡ last_of seen
popped_of f r items rest n m seen e h len is = ap (option_map f) (popped r items rest n m e h len) ∙ sym (last_of-map f items) ∙ ap last_of is
