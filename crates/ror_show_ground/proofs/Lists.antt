-- Lists that are made place by place, and the places that pass a test.
use Rattle.std.proofs.Common.{◌≡◌, ℕ, zero, suc, ◌+◌, ◌<◌, ◌≤◌, Bool, true, false, List, [], ◌∷◌, ◌++◌, length, take, get_or, Some, refl, sym, subst, ◌∙◌, arith}
use Rattle.std.specs.Prelude.{slice_get, if◌then◌else◌}
use Rattle.std.specs.List.{AllByRecursion, AllZip, flat_map, range_with_len}
use Rattle.std.proofs.lemmas.List.{take_more}
use Rattle.ror_text.proofs.Everywhere.{all-pieces, all_at}
use Rattle.ror_bench.specs.declared.kept.KeptLine.{KeptLine}
use Rattle.ror_show_ground.specs.Lines.{places_where}

pub at_place : {X : Type 0} (xs : List X) (k : ℕ) (d : X) → k < length xs → slice_get xs k ≡ Some (get_or xs k d)
at_place [] k d within = absurd (omega (arith, within))
at_place (x ∷ xs) zero d within = refl
at_place (x ∷ xs) (suc k) d within = at_place xs k d (omega (arith, within))

-- what holds of each element holds of the one at a place
pub holds_at : {X : Type 0} (P : X → Type 0) (xs : List X) (k : ℕ) (x : X) → k < length xs → x ≡ get_or xs k x → AllByRecursion P xs → P x
holds_at P xs k x within here all = subst P (sym here) (all_at P xs k (get_or xs k x) all (at_place xs k x within))

-- the element at a place is the one that is read there
pub read_at : {X : Type 0} (xs : List X) (k : ℕ) (x y : X) → k < length xs → x ≡ get_or xs k x → slice_get xs k ≡ Some y → x ≡ y
read_at xs k x y within here there = let p = sym (at_place xs k x within) ∙ there in let q = here in cc

pub got_at : {X : Type 0} (xs : List X) (k : ℕ) (d y : X) → k < length xs → slice_get xs k ≡ Some y → get_or xs k d ≡ y
got_at xs k d y within there = let p = sym (at_place xs k d within) ∙ there in cc

-- ---- lists place by place

pub zip_push : {X Y : Type 0} (R : X → Y → Type 0) (xs : List X) (ys : List Y) (x : X) (y : Y) → AllZip R xs ys → R x y → AllZip R (xs ++ x ∷ []) (ys ++ y ∷ [])
zip_push R [] [] x y all here = (here, tt)
zip_push R [] (b ∷ ys) x y all here = absurd all
zip_push R (a ∷ xs) [] x y all here = absurd all
zip_push R (a ∷ xs) (b ∷ ys) x y all here = (all.0, zip_push R xs ys x y all.1 here)

-- one element more of the first list, and one that was made for it
pub zip_next : {X Y : Type 0} (R : X → Y → Type 0) (xs : List X) (i : ℕ) (d : X) (before after : List Y) (y : Y) → i < length xs → AllZip R (take i xs) before → R (get_or xs i d) y → after ≡ before ++ y ∷ [] → AllZip R (take (i + 1) xs) after
zip_next {X} {Y} R xs i d before after y within so_far here pushed =
    subst (λ (front : List X). AllZip R front after) (sym (take_more xs i d within))
    (subst (λ (made : List Y). AllZip R (take i xs ++ get_or xs i d ∷ []) made) (sym pushed) (zip_push R (take i xs) before (get_or xs i d) y so_far here))

-- by what each pair brings
pub zip_by : {X Y : Type 0} (R S : X → Y → Type 0) (xs : List X) (ys : List Y) → ((x : X) (y : Y) → R x y → S x y) → AllZip R xs ys → AllZip S xs ys
zip_by R S [] [] brings all = tt
zip_by R S [] (y ∷ ys) brings all = absurd all
zip_by R S (x ∷ xs) [] brings all = absurd all
zip_by R S (x ∷ xs) (y ∷ ys) brings all = (brings x y all.0, zip_by R S xs ys brings all.1)

-- ---- the places that pass a test

pub over_range : (P : ℕ → Type 0) (a n : ℕ) → ((k : ℕ) → a ≤ k → k < a + n → P k) → AllByRecursion P (range_with_len a n)
over_range P a zero each = tt
over_range P a (suc n) each =
    (each a (omega arith) (omega arith), over_range P (a + 1) n (λ k low high. each k (omega (arith, low)) (omega (arith, high))))

one_or_none : (P : ℕ → Type 0) (passes : Bool) (k : ℕ) → P k → AllByRecursion P (if passes then k ∷ [] else [])
one_or_none P true k here = (here, tt)
one_or_none P false k here = tt

-- of the first numbers
pub picked_within : (test : ℕ → Bool) (n : ℕ) → AllByRecursion (λ k. k < n) (flat_map (λ k. if test k then k ∷ [] else []) (range_with_len 0 n))
picked_within test n =
    all-pieces (λ k. k < n) (λ k. if test k then k ∷ [] else []) (range_with_len 0 n)
    (over_range (λ k. AllByRecursion (λ j. j < n) (if test k then k ∷ [] else [])) 0 n (λ k low high. one_or_none (λ j. j < n) (test k) k (omega (arith, high))))

pub places_within : (test : KeptLine → Bool) (kept : List KeptLine) → AllByRecursion (λ n. n < length kept) (places_where test kept)
places_within test kept = picked_within _ (length kept)

-- the place that is read is within
pub within_at : (n : ℕ) (places : List ℕ) (i : ℕ) → i < length places → AllByRecursion (λ k. k < n) places → get_or places i 0 < n
within_at n places i within all = all_at (λ k. k < n) places i (get_or places i 0) all (at_place places i 0 within)
