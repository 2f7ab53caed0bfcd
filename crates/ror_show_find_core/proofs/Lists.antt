-- Lists with one element for each of another.
use Rattle.std.proofs.Common.{◌≡◌, ℕ, suc, ◌+◌, ◌<◌, false, List, [], ◌∷◌, ◌++◌, length, map, take, get_or, Option, Some, None, ltb, refl, ap, subst, ◌∙◌}
use Rattle.std.specs.Prelude.{slice_get}
use Rattle.std.specs.List.{AllByRecursion, AllZip}
use Rattle.std.proofs.lemmas.Bool.{lt-ltb, false≢true}
use Rattle.std.proofs.lemmas.Option.{slice_get_within}
use Rattle.ror_show_ground.proofs.Lists.{zip_next}

-- one more, for the element that is read at a place
pub zip_item : {X Y : Type 0} (R : X → Y → Type 0) (xs : List X) (i : ℕ) (x : X) (before after : List Y) (y : Y) → i < length xs → x ≡ get_or xs i x → AllZip R (take i xs) before → R x y → after ≡ before ++ y ∷ [] → AllZip R (take (i + 1) xs) after
zip_item {X} R xs i x before after y within here so_far is pushed =
    zip_next R xs i x before after y within so_far (subst (λ (z : X). R z y) here is) pushed

-- what each brings
pub zip_each : {X Y : Type 0} (R : X → Y → Type 0) (P : Y → Type 0) (xs : List X) (ys : List Y) → ((x : X) (y : Y) → R x y → P y) → AllZip R xs ys → AllByRecursion P ys
zip_each R P [] [] brings all = tt
zip_each R P [] (y ∷ ys) brings all = absurd all
zip_each R P (x ∷ xs) [] brings all = absurd all
zip_each R P (x ∷ xs) (y ∷ ys) brings all = (brings x y all.0, zip_each R P xs ys brings all.1)

pub zip_length : {X Y : Type 0} (R : X → Y → Type 0) (xs : List X) (ys : List Y) → AllZip R xs ys → length ys ≡ length xs
zip_length R [] [] all = refl
zip_length R [] (y ∷ ys) all = absurd all
zip_length R (x ∷ xs) [] all = absurd all
zip_length R (x ∷ xs) (y ∷ ys) all = ap (λ (n : ℕ). suc n) (zip_length R xs ys all.1)

pub zip_map : {X Y : Type 0} (R : X → Y → Type 0) (f : Y → X) (xs : List X) (ys : List Y) → ((x : X) (y : Y) → R x y → f y ≡ x) → AllZip R xs ys → map f ys ≡ xs
zip_map R f [] [] each all = refl
zip_map R f [] (y ∷ ys) each all = absurd all
zip_map R f (x ∷ xs) [] each all = absurd all
zip_map {X} R f (x ∷ xs) (y ∷ ys) each all = ap (λ (z : X). z ∷ map f ys) (each x y all.0) ∙ ap (λ (zs : List X). x ∷ zs) (zip_map R f xs ys each all.1)

pub zip_none : {X Y : Type 0} (R : X → Y → Type 0) (ys : List Y) → AllZip R [] ys → ys ≡ []
zip_none R [] all = refl
zip_none R (y ∷ ys) all = absurd all

-- nothing stands past the end
pub past : {X : Type 0} (xs : List X) (k : ℕ) → false ≡ ltb k (length xs) → slice_get xs k ≡ None
past {X} xs k end = by (slice_get xs k) refl
  where
    by : (o : Option X) → slice_get xs k ≡ o → o ≡ None
    by (Some x) is = let within = slice_get_within xs k x is in absurd (false≢true (end ∙ lt-ltb k (length xs) within))
    by None is = refl
