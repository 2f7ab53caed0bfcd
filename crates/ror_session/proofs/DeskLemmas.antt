-- Desks in order of first appearance, and the place of each.
use Rattle.std.proofs.Common.{◌≡◌, ℕ, suc, ◌+◌, ◌<◌, ◌≤◌, Bool, true, false, not, cond, ◌&&◌, ◌||◌, filter, List, [], ◌∷◌, ◌++◌, length, get_or, Some, None, refl, sym, ap, subst, ◌∙◌, inl, inr, arith, append_assoc}
use Rattle.std.specs.List.{AllByRecursion, IsDistinct, list_any}
use Rattle.std.specs.Str.{bytes_eq}
use Rattle.std.proofs.lemmas.Bool.{cases_Bool, le-ltb, lt-ltb}
use Rattle.std.proofs.lemmas.List.{append-nil, length-append}
use Rattle.std.proofs.lemmas.Slice.Eq.{bytes_eq-Decides}
use Rattle.ror_session.specs.Desks.{first_appearances, place_of}
use Rattle.ror_session.specs.Session.{find_desk}

-- whether a desk has the name
abbrev pub has_desk : List (List ℕ) → List ℕ → Bool
has_desk desks name = list_any (λ desk. bytes_eq name desk) desks

-- the desks, and after them one with this name where there is none yet
abbrev pub with_desk : List (List ℕ) → List ℕ → List (List ℕ)
with_desk desks name = cond (has_desk desks name) desks (desks ++ name ∷ [])

pub same_bytes : (x y : List ℕ) → bytes_eq x y ≡ true → x ≡ y
same_bytes x y e = (bytes_eq-Decides x y).0 e

pub eq_self : (x : List ℕ) → bytes_eq x x ≡ true
eq_self x = (bytes_eq-Decides x x).1 refl

eq_flip : (x y : List ℕ) → bytes_eq x y ≡ bytes_eq y x
eq_flip x y = elim (cases_Bool (bytes_eq x y)) [
  | inl hit ↦ hit ∙ sym (subst (λ (z : List ℕ). bytes_eq z x ≡ true) (same_bytes x y hit) (eq_self x))
  | inr miss ↦ elim (cases_Bool (bytes_eq y x)) [
    | inl hit ↦ absurd (let same : bytes_eq x y ≡ true = (bytes_eq-Decides x y).1 (sym (same_bytes y x hit)) in cc)
    | inr other ↦ miss ∙ sym other
  ]
]

-- ---- filters

filter_absorbs : {X : Type 0} (p q : X → Bool) → ((x : X) → p x ≡ true → q x ≡ true) → (xs : List X) → filter p (filter q xs) ≡ filter p xs
filter_absorbs p q h [] = refl
filter_absorbs p q h (x ∷ xs) = elim (cases_Bool (q x)) [
  | inl passes ↦ elim (cases_Bool (p x)) [
    | inl hit ↦ rw (passes, hit) (ap (λ ys. x ∷ ys) (filter_absorbs p q h xs))
    | inr miss ↦ rw (passes, miss) (filter_absorbs p q h xs)
  ]
  | inr fails ↦ elim (cases_Bool (p x)) [
    | inl hit ↦ absurd (let e = h x hit in cc)
    | inr miss ↦ rw (fails, miss) (filter_absorbs p q h xs)
  ]
]

filter_both : {X : Type 0} (p q r : X → Bool) → ((x : X) → r x ≡ (q x && p x)) → (xs : List X) → filter r xs ≡ filter p (filter q xs)
filter_both p q r h [] = refl
filter_both p q r h (x ∷ xs) = elim (cases_Bool (q x)) [
  | inl passes ↦ elim (cases_Bool (p x)) [
    | inl hit ↦ let e : r x ≡ true = h x ∙ rw (passes, hit) refl in rw (e, passes, hit) (ap (λ ys. x ∷ ys) (filter_both p q r h xs))
    | inr miss ↦ let e : r x ≡ false = h x ∙ rw (passes, miss) refl in rw (e, passes, miss) (filter_both p q r h xs)
  ]
  | inr fails ↦ let e : r x ≡ false = h x ∙ rw fails refl in rw (e, fails) (filter_both p q r h xs)
]

filter_all : {X : Type 0} (p : X → Bool) → ((x : X) → p x ≡ true) → (xs : List X) → filter p xs ≡ xs
filter_all p h [] = refl
filter_all p h (x ∷ xs) = rw (h x) (ap (λ ys. x ∷ ys) (filter_all p h xs))

all_kept : {X : Type 0} (P : X → Type 0) (p : X → Bool) (xs : List X) → AllByRecursion P xs → AllByRecursion P (filter p xs)
all_kept P p [] h = tt
all_kept P p (x ∷ xs) h = elim (cases_Bool (p x)) [
  | inl hit ↦ rw hit (h.0, all_kept P p xs h.1)
  | inr miss ↦ rw miss (all_kept P p xs h.1)
]

-- ---- the desks after lines

-- the desks, and those of these names
abbrev pub desks_after : List (List ℕ) → List (List ℕ) → List (List ℕ)
desks_after desks [] = desks
desks_after desks (name ∷ names) = desks_after (with_desk desks name) names

-- the names that no desk has yet
abbrev pub new_names : List (List ℕ) → List (List ℕ) → List (List ℕ)
new_names desks names = filter (λ name. not (has_desk desks name)) (first_appearances names)

has_push : (desks : List (List ℕ)) (name x : List ℕ) → has_desk (desks ++ name ∷ []) x ≡ (has_desk desks x || bytes_eq x name)
has_push [] name x = elim (cases_Bool (bytes_eq x name)) [ inl hit ↦ rw hit refl | inr miss ↦ rw miss refl ]
has_push (desk ∷ desks) name x = elim (cases_Bool (bytes_eq x desk)) [
  | inl hit ↦ rw hit refl
  | inr miss ↦ rw miss (has_push desks name x)
]

not_pushed : (desks : List (List ℕ)) (name x : List ℕ) → not (has_desk (desks ++ name ∷ []) x) ≡ (not (bytes_eq name x) && not (has_desk desks x))
not_pushed desks name x = rw (has_push desks name x, eq_flip name x) (de_morgan (has_desk desks x) (bytes_eq x name))
  where
    de_morgan : (a b : Bool) → not (a || b) ≡ (not b && not a)
    de_morgan true true = refl
    de_morgan true false = refl
    de_morgan false true = refl
    de_morgan false false = refl

pub desks_after-is : (desks names : List (List ℕ)) → desks_after desks names ≡ desks ++ new_names desks names
desks_after-is desks [] = sym (append-nil desks)
desks_after-is desks (name ∷ names) = elim (cases_Bool (has_desk desks name)) [
  | inl hit ↦
      let absorbed : filter (λ (x : List ℕ). not (has_desk desks x)) (filter (λ (x : List ℕ). not (bytes_eq name x)) (first_appearances names)) ≡ new_names desks names = filter_absorbs _ _ (λ x new. differs x new hit) (first_appearances names) in
      rw hit (desks_after-is desks names ∙ ap (λ (more : List (List ℕ)). desks ++ more) (sym absorbed))
  | inr miss ↦
      let both : new_names (desks ++ name ∷ []) names ≡ filter (λ (x : List ℕ). not (has_desk desks x)) (filter (λ (x : List ℕ). not (bytes_eq name x)) (first_appearances names)) = filter_both _ _ _ (λ x. not_pushed desks name x) (first_appearances names) in
      rw miss (desks_after-is (desks ++ name ∷ []) names ∙ append_assoc desks (name ∷ []) _ ∙ ap (λ (more : List (List ℕ)). desks ++ name ∷ more) both)
]
  where
    differs : (x : List ℕ) → not (has_desk desks x) ≡ true → has_desk desks name ≡ true → not (bytes_eq name x) ≡ true
    differs x new hit = elim (cases_Bool (bytes_eq name x)) [
      | inl same ↦ absurd (let h = subst (λ (y : List ℕ). has_desk desks y ≡ true) (same_bytes name x same) hit in let g = rw h at new in cc)
      | inr other ↦ rw other refl
    ]

pub desks_after-none : (names : List (List ℕ)) → desks_after [] names ≡ first_appearances names
desks_after-none names = desks_after-is [] names ∙ filter_all _ (λ x. refl) (first_appearances names)

-- ---- places

place_more : (desks more : List (List ℕ)) (name : List ℕ) → has_desk desks name ≡ true → place_of (desks ++ more) name ≡ place_of desks name
place_more [] more name h = absurd cc
place_more (desk ∷ desks) more name h = elim (cases_Bool (bytes_eq name desk)) [
  | inl hit ↦ rw hit refl
  | inr miss ↦ rw miss (ap (λ (n : ℕ). 1 + n) (place_more desks more name (rw miss at h)))
]

place_push : (desks more : List (List ℕ)) (name : List ℕ) → place_of (desks ++ name ∷ more) name ≡ place_of desks name
place_push [] more name = rw (eq_self name) refl
place_push (desk ∷ desks) more name = elim (cases_Bool (bytes_eq name desk)) [
  | inl hit ↦ rw hit refl
  | inr miss ↦ rw miss (ap (λ (n : ℕ). 1 + n) (place_push desks more name))
]

-- a desk keeps its place
pub place_kept : (desks names : List (List ℕ)) (name : List ℕ) → place_of (desks_after desks (name ∷ names)) name ≡ place_of desks name
place_kept desks names name = elim (cases_Bool (has_desk desks name)) [
  | inl hit ↦ ap (λ (ds : List (List ℕ)). place_of ds name) (desks_after-is desks (name ∷ names)) ∙ place_more desks (new_names desks (name ∷ names)) name hit
  | inr miss ↦
      let now : desks_after desks (name ∷ names) ≡ desks ++ name ∷ new_names (desks ++ name ∷ []) names = rw miss (desks_after-is (desks ++ name ∷ []) names ∙ append_assoc desks (name ∷ []) _) in
      ap (λ (ds : List (List ℕ)). place_of ds name) now ∙ place_push desks _ name
]

pub place_below : (desks : List (List ℕ)) (name : List ℕ) → has_desk desks name ≡ true → place_of desks name < length desks
place_below [] name h = absurd cc
place_below (desk ∷ desks) name h = elim (cases_Bool (bytes_eq name desk)) [
  | inl hit ↦ rw hit (omega arith)
  | inr miss ↦ rw miss (let g = place_below desks name (rw miss at h) in omega arith)
]

pub place_new : (desks : List (List ℕ)) (name : List ℕ) → has_desk desks name ≡ false → place_of desks name ≡ length desks
place_new [] name h = refl
place_new (desk ∷ desks) name h = elim (cases_Bool (bytes_eq name desk)) [
  | inl hit ↦ let g = rw hit at h in absurd cc
  | inr miss ↦ rw miss (let g = place_new desks name (rw miss at h) in omega arith)
]

one_more : (n : ℕ) → 1 + n ≡ suc n
one_more n = omega arith

pub name_at : (desks : List (List ℕ)) (name : List ℕ) → has_desk desks name ≡ true → get_or desks (place_of desks name) [] ≡ name
name_at [] name h = absurd cc
name_at (desk ∷ desks) name h = elim (cases_Bool (bytes_eq name desk)) [
  | inl hit ↦ rw hit (sym (same_bytes name desk hit))
  | inr miss ↦ rw (miss, one_more (place_of desks name)) (name_at desks name (rw miss at h))
]

pub find_hit : (desks : List (List ℕ)) (name : List ℕ) → has_desk desks name ≡ true → find_desk desks name ≡ Some (place_of desks name)
find_hit desks name hit = let within = lt-ltb (place_of desks name) (length desks) (place_below desks name hit) in rw within refl

pub find_miss : (desks : List (List ℕ)) (name : List ℕ) → has_desk desks name ≡ false → find_desk desks name ≡ None
find_miss desks name miss = let past = le-ltb (place_of desks name) (length desks) (omega (arith, place_new desks name miss)) in rw past refl

pub after_length : (desks names : List (List ℕ)) → length desks ≤ length (desks_after desks names)
after_length desks names = rw (desks_after-is desks names) (omega (arith, length-append desks (new_names desks names)))

-- ---- first appearances

pub appearances_keep : (P : List ℕ → Type 0) (names : List (List ℕ)) → AllByRecursion P names → AllByRecursion P (first_appearances names)
appearances_keep P [] h = tt
appearances_keep P (name ∷ names) h = (h.0, all_kept P _ (first_appearances names) (appearances_keep P names h.1))

others_differ : (name : List ℕ) (xs : List (List ℕ)) → AllByRecursion (λ x. bytes_eq name x ≡ false) (filter (λ x. not (bytes_eq name x)) xs)
others_differ name [] = tt
others_differ name (x ∷ xs) = elim (cases_Bool (bytes_eq name x)) [
  | inl hit ↦ rw hit (others_differ name xs)
  | inr miss ↦ rw miss (miss, others_differ name xs)
]

distinct_kept : (p : List ℕ → Bool) (xs : List (List ℕ)) → IsDistinct bytes_eq xs → IsDistinct bytes_eq (filter p xs)
unfolding IsDistinct
distinct_kept p [] h = tt
distinct_kept p (x ∷ xs) h = elim (cases_Bool (p x)) [
  | inl hit ↦ rw hit (all_kept (λ (y : List ℕ). bytes_eq x y ≡ false) p xs h.0, distinct_kept p xs h.1)
  | inr miss ↦ rw miss (distinct_kept p xs h.1)
]

pub appearances_distinct : (names : List (List ℕ)) → IsDistinct bytes_eq (first_appearances names)
unfolding IsDistinct
appearances_distinct [] = tt
appearances_distinct (name ∷ names) = (others_differ name (first_appearances names), distinct_kept _ (first_appearances names) (appearances_distinct names))

has_kept : (name x : List ℕ) (xs : List (List ℕ)) → bytes_eq x name ≡ false → has_desk xs x ≡ true → has_desk (filter (λ y. not (bytes_eq name y)) xs) x ≡ true
has_kept name x [] other h = absurd cc
has_kept name x (y ∷ xs) other h = elim (cases_Bool (bytes_eq name y)) [
  | inl hit ↦
      let miss : bytes_eq x y ≡ false = subst (λ (z : List ℕ). bytes_eq x z ≡ false) (same_bytes name y hit) other in
      rw hit (has_kept name x xs other (rw miss at h))
  | inr keeps ↦ rw keeps (elim (cases_Bool (bytes_eq x y)) [
    | inl here ↦ rw here refl
    | inr miss ↦ rw miss (has_kept name x xs other (rw miss at h))
  ])
]

all_map : {X : Type 0} (P Q : X → Type 0) → ((x : X) → P x → Q x) → (xs : List X) → AllByRecursion P xs → AllByRecursion Q xs
all_map P Q f [] h = tt
all_map P Q f (x ∷ xs) h = (f x h.0, all_map P Q f xs h.1)

pub appearances_have : (names : List (List ℕ)) → AllByRecursion (λ name. has_desk (first_appearances names) name ≡ true) names
appearances_have [] = tt
appearances_have (name ∷ names) = (rw (eq_self name) refl, all_map _ _ step names (appearances_have names))
  where
    step : (x : List ℕ) → has_desk (first_appearances names) x ≡ true → has_desk (first_appearances (name ∷ names)) x ≡ true
    step x h = elim (cases_Bool (bytes_eq x name)) [
      | inl hit ↦ rw hit refl
      | inr miss ↦ rw miss (has_kept name x (first_appearances names) miss h)
    ]
