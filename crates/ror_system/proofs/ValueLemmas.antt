-- What a place stands for stays as the numbers beside become more, and what a list comes to as numbers are put behind it.
use Rattle.std.proofs.Common.{◌≡◌, Bool, true, false, ℕ, ◌+◌, ◌-◌, ◌≤◌, List, [], ◌∷◌, ◌++◌, length, map, ℤ, pos, negsuc, refl, sym, ap, ◌∙◌, subst, arith, length-append, nat_lt}
use Rattle.std.specs.Prelude.{if◌then◌else◌}
use Rattle.std.specs.List.{AllByRecursion}
use Rattle.std.proofs.lemmas.Bool.{ltb-false, le-ltb}
use Rattle.std.proofs.lemmas.List.{map-append, get_or_append_left, get_or_push}
use Rattle.ror_integers.specs.Vectors.{entry}
use Rattle.ror_system.specs.Values.{plain_limit, number_at, IsPlaceAmong}

-- ---- one number beside more
pick : (b : Bool) (a x y : ℤ) → (b ≡ false → x ≡ y) → (if b then a else x) ≡ (if b then a else y)
pick true a x y h = refl
pick false a x y h = h refl

same_number : (wide : List ℤ) (x place : ℤ) → IsPlaceAmong (length wide) place → number_at (wide ++ x ∷ []) place ≡ number_at wide place
same_number wide x (pos n) h = refl
same_number wide x (negsuc n) h =
    pick (nat_lt n plain_limit) (negsuc n) (entry (wide ++ x ∷ []) (n - plain_limit)) (entry wide (n - plain_limit)) (λ is. let l = ltb-false n plain_limit is in get_or_append_left wide (x ∷ []) (pos 0) (n - plain_limit) (omega arith))

pub same_numbers : (wide : List ℤ) (x : ℤ) (places : List ℤ) → AllByRecursion (IsPlaceAmong (length wide)) places → map (number_at (wide ++ x ∷ [])) places ≡ map (number_at wide) places
same_numbers wide x [] h = refl
same_numbers wide x (place ∷ places) h =
    let first = same_number wide x place h.0 in
    let rest = same_numbers wide x places h.1 in
    cc

pub kept : (wide more places longer before : List ℤ) (x : ℤ) → AllByRecursion (IsPlaceAmong (length wide)) places → map (number_at wide) places ≡ before → more ≡ wide ++ x ∷ [] → longer ≡ places → map (number_at more) longer ≡ before
kept wide more places longer before x h is e f =
    ap (λ (xs : List ℤ). map (number_at xs) longer) e ∙ ap (map (number_at (wide ++ x ∷ []))) f ∙ same_numbers wide x places h ∙ is

last_beside : (wide : List ℤ) (x : ℤ) → number_at (wide ++ x ∷ []) (negsuc (plain_limit + length wide)) ≡ x
last_beside wide x =
    let n : ℕ = plain_limit + length wide in
    let f : nat_lt n plain_limit ≡ false = le-ltb n plain_limit (omega arith) in
    ap (λ (b : Bool). if b then negsuc n else entry (wide ++ x ∷ []) (n - plain_limit)) f ∙ get_or_push wide x (pos 0) (n - plain_limit) (omega arith)

pub with_one_beside : (wide more places longer before : List ℤ) (x place : ℤ) → AllByRecursion (IsPlaceAmong (length wide)) places → map (number_at wide) places ≡ before → more ≡ wide ++ x ∷ [] → longer ≡ places ++ place ∷ [] → place ≡ negsuc (plain_limit + length wide) → map (number_at more) longer ≡ before ++ x ∷ []
with_one_beside wide more places longer before x place h is e f at =
    let all = same_numbers wide x places h ∙ is in
    let last : number_at (wide ++ x ∷ []) place ≡ x = ap (number_at (wide ++ x ∷ [])) at ∙ last_beside wide x in
    ap (λ (xs : List ℤ). map (number_at xs) longer) e ∙ ap (map (number_at (wide ++ x ∷ []))) f ∙ map-append (number_at (wide ++ x ∷ [])) places (place ∷ []) ∙ ap (λ (xs : List ℤ). xs ++ number_at (wide ++ x ∷ []) place ∷ []) all ∙ ap (λ (y : ℤ). before ++ y ∷ []) last

among_more : (m n : ℕ) (place : ℤ) → m ≤ n → IsPlaceAmong m place → IsPlaceAmong n place
among_more m n (pos k) l h = tt
among_more m n (negsuc k) l h = omega arith

places_more : (m n : ℕ) (places : List ℤ) (place : ℤ) → m ≤ n → AllByRecursion (IsPlaceAmong m) places → IsPlaceAmong n place → AllByRecursion (IsPlaceAmong n) (places ++ place ∷ [])
places_more m n [] place l h one = (one, tt)
places_more m n (first ∷ places) place l h one = (among_more m n first l h.0, places_more m n places place l h.1 one)

all_more : (m n : ℕ) (places : List ℤ) → m ≤ n → AllByRecursion (IsPlaceAmong m) places → AllByRecursion (IsPlaceAmong n) places
all_more m n [] l h = tt
all_more m n (first ∷ places) l h = (among_more m n first l h.0, all_more m n places l h.1)

pub still_among : (wide more places longer : List ℤ) (x : ℤ) → AllByRecursion (IsPlaceAmong (length wide)) places → more ≡ wide ++ x ∷ [] → longer ≡ places → AllByRecursion (IsPlaceAmong (length more)) longer
still_among wide more places longer x h e f =
    let n = length-append wide (x ∷ []) in
    let k : length more ≡ length (wide ++ x ∷ []) = ap length e in
    subst (AllByRecursion (IsPlaceAmong (length more))) (sym f) (all_more (length wide) (length more) places (omega arith) h)

pub all_among : (wide more places longer : List ℤ) (x place : ℤ) → AllByRecursion (IsPlaceAmong (length wide)) places → more ≡ wide ++ x ∷ [] → longer ≡ places ++ place ∷ [] → place ≡ negsuc (plain_limit + length wide) → AllByRecursion (IsPlaceAmong (length more)) longer
all_among wide more places longer x place h e f at =
    let n = length-append wide (x ∷ []) in
    let k : length more ≡ length (wide ++ x ∷ []) = ap length e in
    let last : IsPlaceAmong (length more) (negsuc (plain_limit + length wide)) = omega arith in
    subst (AllByRecursion (IsPlaceAmong (length more))) (sym f) (places_more (length wide) (length more) places place (omega arith) h (subst (IsPlaceAmong (length more)) (sym at) last))
