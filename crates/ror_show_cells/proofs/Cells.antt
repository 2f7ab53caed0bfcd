-- The cells of a row by their places.
use Rattle.std.proofs.Common.{◌≡◌, ℕ, zero, suc, List, [], ◌∷◌, length, map, Some, None, refl, ap}
use Rattle.csv.specs.Records.{field_at}
use Rattle.ror_text.specs.Lines.{word_at}

pub field_some : (fields : List (List ℕ)) (k : ℕ) (f : List ℕ) → Some f ≡ field_at fields k → f ≡ word_at fields k
unfolding field_at
field_some [] k f e = absurd cc
field_some (x ∷ fields) zero f e = cc
field_some (x ∷ fields) (suc k) f e = field_some fields k f e

pub field_none : (fields : List (List ℕ)) (k : ℕ) → None ≡ field_at fields k → [] ≡ word_at fields k
unfolding field_at
field_none [] k e = refl
field_none (x ∷ fields) zero e = absurd cc
field_none (x ∷ fields) (suc k) e = field_none fields k e

pub size_map : {A B : Type 0} (f : A → B) (xs : List A) → length (map f xs) ≡ length xs
size_map f [] = refl
size_map f (x ∷ xs) = ap (λ (n : ℕ). suc n) (size_map f xs)
