-- Sets of alternatives: their members, what two share, and how many are in one that is within another.
use Rattle.std.proofs.Common.{◌≡◌, ◌⊎◌, inl, inr, ℕ, zero, suc, ◌+◌, ◌<◌, ◌≤◌, Bool, true, false, List, [], ◌∷◌, ◌++◌, length, Contains, refl, sym, ap, subst, ◌∙◌, arith}
use Rattle.std.specs.Prelude.{nat_eq}
use Rattle.std.specs.List.{AllByRecursion, IsDistinct, list_any, filter, range_with_len}
use Rattle.std.specs.Set.{is_member}
use Rattle.std.proofs.lemmas.Bool.{cases_Bool, and_parts, or_cases, or_parts, or_left, or_right, false_from_ne_true, true≢false, eqb-true, eq-eqb, ne_eqb}
use Rattle.std.proofs.lemmas.Cmp.{nat_eq_equiv}
use Rattle.std.proofs.lemmas.Map.Keys.{IsDistinct-cons}
use Rattle.std.proofs.lemmas.Map.Made.{length-le_from_is_member, is_member-filter}
use Rattle.ror_check.proofs.Numbers.{member-here, member-later, member-cases}
use Rattle.ror_ranks.specs.Trees.{share}

-- each of the first is one of the second
abbrev pub IsWithinSet : List ℕ → List ℕ → Type 0
IsWithinSet xs ys = (q : ℕ) → is_member nat_eq xs q ≡ true → is_member nat_eq ys q ≡ true

-- ---- members

pub member_front : (xs ys : List ℕ) (q : ℕ) → is_member nat_eq xs q ≡ true → is_member nat_eq (xs ++ ys) q ≡ true
member_front [] ys q h = absurd cc
member_front (x ∷ xs) ys q h = elim (member-cases x q xs h) [
  | inl same ↦ subst (λ (n : ℕ). is_member nat_eq (x ∷ (xs ++ ys)) n ≡ true) (sym same) (member-here x (xs ++ ys))
  | inr later ↦ member-later x q (xs ++ ys) (member_front xs ys q later)
]

pub member_back : (xs ys : List ℕ) (q : ℕ) → is_member nat_eq ys q ≡ true → is_member nat_eq (xs ++ ys) q ≡ true
member_back [] ys q h = h
member_back (x ∷ xs) ys q h = member-later x q (xs ++ ys) (member_back xs ys q h)

pub member_of_both : (xs ys : List ℕ) (q : ℕ) → is_member nat_eq (xs ++ ys) q ≡ true → (is_member nat_eq xs q ≡ true) ⊎ (is_member nat_eq ys q ≡ true)
member_of_both [] ys q h = inr h
member_of_both (x ∷ xs) ys q h = elim (member-cases x q (xs ++ ys) h) [
  | inl same ↦ inl (subst (λ (n : ℕ). is_member nat_eq (x ∷ xs) n ≡ true) (sym same) (member-here x xs))
  | inr later ↦ elim (member_of_both xs ys q later) [
    | inl front ↦ inl (member-later x q xs front)
    | inr back ↦ inr back
  ]
]

pub contains_member : (xs : List ℕ) (q : ℕ) → is_member nat_eq xs q ≡ true → Contains xs q
contains_member [] q h = absurd cc
contains_member (x ∷ xs) q h = elim (member-cases x q xs h) [
  | inl same ↦ (0, omega arith, sym same)
  | inr later ↦ let r = contains_member xs q later in (suc r.0, omega (arith, r.1), r.2)
]

-- one that passes is a member
pub any_some : (test : ℕ → Bool) (xs : List ℕ) → list_any test xs ≡ true → (q : ℕ) × (is_member nat_eq xs q ≡ true) × (test q ≡ true)
any_some test [] h = absurd cc
any_some test (x ∷ xs) h = elim (or_cases (test x) (list_any test xs) h) [
  | inl here ↦ (x, member-here x xs, here)
  | inr later ↦ let r = any_some test xs later in (r.0, member-later x r.0 xs r.1, r.2)
]

pub any_none : (test : ℕ → Bool) (xs : List ℕ) → list_any test xs ≡ false → AllByRecursion (λ q. test q ≡ false) xs
any_none test [] h = tt
any_none test (x ∷ xs) h = let parts = or_parts (test x) (list_any test xs) h in (parts.0, any_none test xs parts.1)

-- what holds of all holds of a member
pub all_member : (P : ℕ → Type 0) (xs : List ℕ) (q : ℕ) → AllByRecursion P xs → is_member nat_eq xs q ≡ true → P q
all_member P [] q all h = absurd cc
all_member P (x ∷ xs) q all h = elim (member-cases x q xs h) [
  | inl same ↦ subst P (sym same) all.0
  | inr later ↦ all_member P xs q all.1 later
]

pub all_members : (P : ℕ → Type 0) (xs : List ℕ) → ((q : ℕ) → is_member nat_eq xs q ≡ true → P q) → AllByRecursion P xs
all_members P [] each = tt
all_members P (x ∷ xs) each = (each x (member-here x xs), all_members P xs (λ q h. each q (member-later x q xs h)))

pub apart_from : (b : ℕ) (xs : List ℕ) → is_member nat_eq xs b ≡ false → AllByRecursion (λ y. nat_eq b y ≡ false) xs
apart_from b xs h = any_none (λ y. nat_eq b y) xs h

-- ---- what two share

pub share_some : (xs ys : List ℕ) → share xs ys ≡ true → (b : ℕ) × (is_member nat_eq xs b ≡ true) × (is_member nat_eq ys b ≡ true)
share_some xs ys h = any_some (λ x. is_member nat_eq ys x) xs h

pub share_none : (xs ys : List ℕ) (b : ℕ) → share xs ys ≡ false → is_member nat_eq xs b ≡ true → is_member nat_eq ys b ≡ false
share_none xs ys b none h = all_member (λ x. is_member nat_eq ys x ≡ false) xs b (any_none (λ x. is_member nat_eq ys x) xs none) h

pub share_from : (xs ys : List ℕ) (b : ℕ) → is_member nat_eq xs b ≡ true → is_member nat_eq ys b ≡ true → share xs ys ≡ true
share_from [] ys b first second = absurd cc
share_from (x ∷ xs) ys b first second = elim (member-cases x b xs first) [
  | inl same ↦ or_left (is_member nat_eq ys x) (share xs ys) (subst (λ (n : ℕ). is_member nat_eq ys n ≡ true) same second)
  | inr later ↦ or_right (is_member nat_eq ys x) (share xs ys) (share_from xs ys b later second)
]

-- ---- sets without repeats

pub distinct_none : IsDistinct nat_eq []
unfolding IsDistinct
distinct_none = tt

pub fewer : (xs ys : List ℕ) → IsDistinct nat_eq xs → IsWithinSet xs ys → length xs ≤ length ys
fewer xs ys distinct within = length-le_from_is_member nat_eq_equiv xs ys distinct within

-- one more that is in neither's way
pub distinct_more : (b : ℕ) (xs ys : List ℕ) → IsDistinct nat_eq xs → IsWithinSet xs ys → is_member nat_eq ys b ≡ false → IsDistinct nat_eq (b ∷ xs)
distinct_more b xs ys distinct within absent = IsDistinct-cons nat_eq b xs (apart_from b xs none) distinct
  where
    none : is_member nat_eq xs b ≡ false
    none = false_from_ne_true (is_member nat_eq xs b) (λ h. true≢false (sym (within b h) ∙ absent))

pub within_cons : (b : ℕ) (xs ys : List ℕ) → is_member nat_eq ys b ≡ true → IsWithinSet xs ys → IsWithinSet (b ∷ xs) ys
within_cons b xs ys here within q h = elim (member-cases b q xs h) [
  | inl same ↦ rw same here
  | inr later ↦ within q later
]

pub within_push : (b : ℕ) (xs ys : List ℕ) → is_member nat_eq ys b ≡ true → IsWithinSet xs ys → IsWithinSet (xs ++ b ∷ []) ys
within_push b xs ys here within q h = elim (member_of_both xs (b ∷ []) q h) [
  | inl front ↦ within q front
  | inr back ↦ within_cons b [] ys here (λ p none. absurd cc) q back
]

-- ---- places of a table

pub range_below : (m s n : ℕ) → s + m ≤ n → AllByRecursion (λ k. k < n) (range_with_len s m)
range_below zero s n h = tt
range_below (suc m) s n h = (omega arith, range_below m (s + 1) n (omega arith))

range_apart : (b m s : ℕ) → b < s → AllByRecursion (λ y. nat_eq b y ≡ false) (range_with_len s m)
range_apart b zero s low = tt
range_apart b (suc m) s low = (ne_eqb b s (λ e. omega arith), range_apart b m (s + 1) (omega arith))

pub range_distinct : (m s : ℕ) → IsDistinct nat_eq (range_with_len s m)
range_distinct zero s = distinct_none
range_distinct (suc m) s = IsDistinct-cons nat_eq s (range_with_len (s + 1) m) (range_apart s m (s + 1) (omega arith)) (range_distinct m (s + 1))

pub in_range : (q m s : ℕ) → s ≤ q → q < s + m → is_member nat_eq (range_with_len s m) q ≡ true
in_range q zero s low high = absurd (omega arith)
in_range q (suc m) s low high = elim (cases_Bool (nat_eq q s)) [
  | inl yes_ ↦ rw yes_ refl
  | inr no_ ↦ let other : q ≡ s → ⊥ = λ e. true≢false (sym (eq-eqb q s e) ∙ no_) in
      member-later s q (range_with_len (s + 1) m) (in_range q m (s + 1) (grind (arith, other)) (omega arith))
]

-- ---- what is left of a set by a test

pub alike : (test : ℕ → Bool) (q x : ℕ) → nat_eq q x ≡ true → test q ≡ test x
alike test q x same = ap test (eqb-true q x same)

pub member_filter : (test : ℕ → Bool) (xs : List ℕ) (q : ℕ) → is_member nat_eq xs q ≡ true → test q ≡ true → is_member nat_eq (filter test xs) q ≡ true
member_filter test xs q h passes = is_member-filter nat_eq_equiv test q (alike test q) xs ∙ rw (h, passes) refl

pub member_filter_parts : (test : ℕ → Bool) (xs : List ℕ) (q : ℕ) → is_member nat_eq (filter test xs) q ≡ true → (is_member nat_eq xs q ≡ true) × (test q ≡ true)
member_filter_parts test xs q h = and_parts (is_member nat_eq xs q) (test q) (sym (is_member-filter nat_eq_equiv test q (alike test q) xs) ∙ h)

all_kept : (P : ℕ → Type 0) (test : ℕ → Bool) (xs : List ℕ) → AllByRecursion P xs → AllByRecursion P (filter test xs)
all_kept P test xs all = all_members P (filter test xs) (λ q h. all_member P xs q all (member_filter_parts test xs q h).0)

pub distinct_filter : (test : ℕ → Bool) (xs : List ℕ) → IsDistinct nat_eq xs → IsDistinct nat_eq (filter test xs)
unfolding IsDistinct
distinct_filter test [] h = tt
distinct_filter test (x ∷ xs) h = elim (cases_Bool (test x)) [
  | inl yes_ ↦ rw yes_ (all_kept (λ y. nat_eq x y ≡ false) test xs h.0, distinct_filter test xs h.1)
  | inr no_ ↦ rw no_ (distinct_filter test xs h.1)
]

-- what passes the one test passes the other, so that testing twice is testing once
pub filter_twice : (p q : ℕ → Bool) (xs : List ℕ) → ((x : ℕ) → p x ≡ true → q x ≡ true) → filter p (filter q xs) ≡ filter p xs
filter_twice p q [] also = refl
filter_twice p q (x ∷ xs) also = by (p x) (q x) refl refl (filter_twice p q xs also)
  where
    by : (b c : Bool) → p x ≡ b → q x ≡ c → filter p (filter q xs) ≡ filter p xs → filter p (filter q (x ∷ xs)) ≡ filter p (x ∷ xs)
    by true true is other rest = rw (other, is) (ap (λ more. x ∷ more) rest)
    by true false is other rest = absurd (true≢false (sym (also x is) ∙ other))
    by false true is other rest = rw (other, is) rest
    by false false is other rest = rw (other, is) rest
