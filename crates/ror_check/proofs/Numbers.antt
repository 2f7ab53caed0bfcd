-- Numbers that rise, the members of a list, and what of a list is among given numbers.
use Rattle.std.proofs.Common.{◌≡◌, ◌≢◌, ◌↔◌, ◌⊎◌, inl, inr, ℕ, zero, suc, ◌+◌, ◌<◌, ◌≤◌, Bool, true, false, List, [], ◌∷◌, map, get_or, Some, refl, sym, ap, subst, ◌∙◌, arith}
use Rattle.std.specs.Prelude.{slice_get, nat_eq}
use Rattle.std.specs.List.{AllByRecursion, filter}
use Rattle.std.specs.List.Sorted.{IsStrictlyIncreasing}
use Rattle.std.specs.Set.{is_member}
use Rattle.std.proofs.lemmas.Bool.{cases_Bool, cases_eq, cases_lt, eqb-true, eq-eqb}
use Rattle.std.proofs.lemmas.List.Elements.{recursion_from_All}
use Rattle.std.proofs.lemmas.List.Kept.{AllPairs-from_increasing}

-- ---- members

pub member-here : (n : ℕ) (ns : List ℕ) → is_member nat_eq (n ∷ ns) n ≡ true
member-here n ns = rw (eq-eqb n n refl) refl

pub member-later : (m n : ℕ) (ns : List ℕ) → is_member nat_eq ns n ≡ true → is_member nat_eq (m ∷ ns) n ≡ true
member-later m n ns h = elim (cases_Bool (nat_eq n m)) [ inl yes_ ↦ rw yes_ refl | inr no_ ↦ rw no_ h ]

pub member-cases : (m n : ℕ) (ns : List ℕ) → is_member nat_eq (m ∷ ns) n ≡ true → (n ≡ m) ⊎ (is_member nat_eq ns n ≡ true)
member-cases m n ns h = elim (cases_Bool (nat_eq n m)) [ inl yes_ ↦ inl (eqb-true n m yes_) | inr no_ ↦ inr (rw no_ at h) ]

pub member-at : {X : Type 0} (f : X → ℕ) (xs : List X) (i : ℕ) (x : X) → slice_get xs i ≡ Some x → is_member nat_eq (map f xs) (f x) ≡ true
member-at f [] i x there = absurd cc
member-at f (y ∷ ys) zero x there = let same : y ≡ x = cc in rw same (member-here (f x) (map f ys))
member-at f (y ∷ ys) (suc i) x there = member-later (f y) (f x) (map f ys) (member-at f ys i x there)

-- a member stands at some place
pub at-member : {X : Type 0} (f : X → ℕ) (xs : List X) (n : ℕ) → is_member nat_eq (map f xs) n ≡ true → (i : ℕ) × (x : X) × (slice_get xs i ≡ Some x) × (f x ≡ n)
at-member f [] n h = absurd cc
at-member f (y ∷ ys) n h = elim (member-cases (f y) n (map f ys) h) [ inl same ↦ (0, y, refl, sym same) | inr later ↦ let r = at-member f ys n later in (suc r.0, r.1, r.2, r.3) ]

above-member : (a n : ℕ) (ns : List ℕ) → AllByRecursion (λ m. a < m) ns → is_member nat_eq ns n ≡ true → a < n
above-member a n [] all h = absurd cc
above-member a n (m ∷ ns) all h = elim (member-cases m n ns h) [ inl same ↦ let low = all.0 in omega arith | inr later ↦ above-member a n ns all.1 later ]

-- ---- numbers that rise, each below all that follow

abbrev pub Rises : List ℕ → Type 0
Rises [] = Unit {0}
Rises (n ∷ ns) = AllByRecursion (λ m. n < m) ns × Rises ns

rest_increases : (n : ℕ) (ns : List ℕ) → IsStrictlyIncreasing (n ∷ ns) → IsStrictlyIncreasing ns
rest_increases n ns h k within = let e : suc k + 1 ≡ suc (k + 1) = omega arith in subst (λ i. get_or ns k 0 < get_or (n ∷ ns) i 0) e (h (suc k) (omega arith))

pub rises : (ns : List ℕ) → IsStrictlyIncreasing ns → Rises ns
rises [] h = tt
rises (n ∷ ns) h = (recursion_from_All (λ m. n < m) ns (λ k d within. AllPairs-from_increasing (n ∷ ns) h 0 (suc k) d (omega arith) (omega arith)), rises ns (rest_increases n ns h))

pub increases : (ns : List ℕ) → Rises ns → IsStrictlyIncreasing ns
increases [] h k within = absurd (omega arith)
increases (n ∷ []) h k within = absurd (omega arith)
increases (n ∷ m ∷ ns) h zero within = h.0.0
increases (n ∷ m ∷ ns) h (suc k) within = let e : suc (k + 1) ≡ suc k + 1 = omega arith in subst (λ i. get_or (m ∷ ns) k 0 < get_or (n ∷ m ∷ ns) i 0) e (increases (m ∷ ns) h.1 k (omega arith))

-- ---- what stands where numbers rise

above-at : {X : Type 0} (f : X → ℕ) (a : ℕ) (xs : List X) (i : ℕ) (x : X) → AllByRecursion (λ m. a < m) (map f xs) → slice_get xs i ≡ Some x → a < f x
above-at f a xs i x all there = above-member a (f x) (map f xs) all (member-at f xs i x there)

pub rises-places : {X : Type 0} (f : X → ℕ) (xs : List X) (i j : ℕ) (x y : X) → Rises (map f xs) → slice_get xs i ≡ Some x → slice_get xs j ≡ Some y → i < j → f x < f y
rises-places f [] i j x y h first second lt = absurd cc
rises-places f (z ∷ zs) zero zero x y h first second lt = absurd (omega arith)
rises-places f (z ∷ zs) zero (suc j) x y h first second lt = let same : z ≡ x = cc in rw (← same) (above-at f (f z) zs j y h.0 second)
rises-places f (z ∷ zs) (suc i) zero x y h first second lt = absurd (omega arith)
rises-places f (z ∷ zs) (suc i) (suc j) x y h first second lt = rises-places f zs i j x y h.1 first second (omega arith)

-- of two elements the one with the lesser number stands earlier, and the one with the same number is the same
pub lesser_earlier : {X : Type 0} (f : X → ℕ) (xs : List X) (i j : ℕ) (x y : X) → Rises (map f xs) → slice_get xs i ≡ Some x → slice_get xs j ≡ Some y → f x < f y → i < j
lesser_earlier f xs i j x y h first second lt = by (cases_lt i j)
  where
    by : (i < j) ⊎ (j ≤ i) → i < j
    by (inl l) = l
    by (inr l) = elim (cases_lt j i) [
      | inl less ↦ let other = rises-places f xs j i y x h second first less in absurd (omega arith)
      | inr more ↦
          let place : i ≡ j = omega arith in
          let here : slice_get xs i ≡ Some y = rw place second in
          let same : Some x ≡ Some y = sym first ∙ here in
          let number : f x ≡ f y = (let e : x ≡ y = cc in ap f e) in
          absurd (omega arith)
    ]

pub same_number : {X : Type 0} (f : X → ℕ) (xs : List X) (i j : ℕ) (x y : X) → Rises (map f xs) → slice_get xs i ≡ Some x → slice_get xs j ≡ Some y → f x ≡ f y → x ≡ y
same_number f xs i j x y h first second same = by (cases_lt i j) (cases_lt j i)
  where
    by : (i < j) ⊎ (j ≤ i) → (j < i) ⊎ (i ≤ j) → x ≡ y
    by (inl less) k = let other = rises-places f xs i j x y h first second less in absurd (omega arith)
    by (inr l) (inl less) = let other = rises-places f xs j i y x h second first less in absurd (omega arith)
    by (inr l) (inr k) =
        let place : i ≡ j = omega arith in
        let here : slice_get xs i ≡ Some y = rw place second in
        let e : Some x ≡ Some y = sym first ∙ here in
        cc

-- where an element stands, none with its number stands before
pub first_place : {X : Type 0} (f : X → ℕ) (xs : List X) (i j : ℕ) (x y : X) → Rises (map f xs) → slice_get xs i ≡ Some x → slice_get xs j ≡ Some y → f y ≡ f x → i ≤ j
first_place f xs i j x y h first second same = elim (cases_lt j i) [
  | inl less ↦ let before = rises-places f xs j i y x h second first less in absurd (omega arith)
  | inr le ↦ le
]

-- ---- numbers of a list that rise, each once

abbrev pub AreIn : List ℕ → List ℕ → Type 0
AreIn all ns = Rises ns × AllByRecursion (λ n. is_member nat_eq all n ≡ true) ns

-- members of a list that are all above its first one are members of the rest
members_later : (a : ℕ) (all ns : List ℕ) → AllByRecursion (λ m. a < m) ns → AllByRecursion (λ n. is_member nat_eq (a ∷ all) n ≡ true) ns → AllByRecursion (λ n. is_member nat_eq all n ≡ true) ns
members_later a all [] above h = tt
members_later a all (n ∷ ns) above h = (elim (member-cases a n all h.0) [ inl same ↦ let low = above.0 in absurd (omega arith) | inr later ↦ later ], members_later a all ns above.1 h.1)

pub members_more : (a : ℕ) (all ns : List ℕ) → AllByRecursion (λ n. is_member nat_eq all n ≡ true) ns → AllByRecursion (λ n. is_member nat_eq (a ∷ all) n ≡ true) ns
members_more a all [] h = tt
members_more a all (n ∷ ns) h = (member-later a n all h.0, members_more a all ns h.1)

members_above : (a : ℕ) (all ns : List ℕ) → AllByRecursion (λ m. a < m) all → AllByRecursion (λ n. is_member nat_eq all n ≡ true) ns → AllByRecursion (λ m. a < m) ns
members_above a all [] above h = tt
members_above a all (n ∷ ns) above h = (above-member a n all above h.0, members_above a all ns above h.1)

pub first_in : (a : ℕ) (all ns : List ℕ) → Rises (a ∷ all) → AreIn (a ∷ all) (a ∷ ns) ↔ AreIn all ns
first_in a all ns up = (λ h. (h.0.1, members_later a all ns h.0.0 h.1.1), λ h. ((members_above a all ns up.0 h.1, h.0), (member-here a all, members_more a all ns h.1)))

all-above : (a b : ℕ) (ns : List ℕ) → a < b → AllByRecursion (λ m. b < m) ns → AllByRecursion (λ m. a < m) ns
all-above a b [] lt h = tt
all-above a b (n ∷ ns) lt h = let low = h.0 in (omega arith, all-above a b ns lt h.1)

pub first_not_in : (a b : ℕ) (all ns : List ℕ) → Rises (a ∷ all) → b ≢ a → AreIn (a ∷ all) (b ∷ ns) ↔ AreIn all (b ∷ ns)
first_not_in a b all ns up other = (λ h. (h.0, later h), λ h. (h.0, members_more a all (b ∷ ns) h.1))
  where
    later : AreIn (a ∷ all) (b ∷ ns) → AllByRecursion (λ n. is_member nat_eq all n ≡ true) (b ∷ ns)
    later h = elim (member-cases a b all h.1.0) [
      | inl same ↦ absurd (other same)
      | inr there ↦ let low : a < b = above-member a b all up.0 there in members_later a all (b ∷ ns) (low, all-above a b ns low h.0.0) h.1
    ]

-- ---- what of a list is among the numbers

pub filter-alike : {X : Type 0} (p q : X → Bool) (xs : List X) → AllByRecursion (λ x. p x ≡ q x) xs → filter p xs ≡ filter q xs
filter-alike p q [] h = refl
filter-alike p q (x ∷ xs) h = elim (cases_Bool (q x)) [
  | inl yes_ ↦ let e : p x ≡ true = h.0 ∙ yes_ in rw (e, yes_) (ap (λ more. x ∷ more) (filter-alike p q xs h.1))
  | inr no_ ↦ let e : p x ≡ false = h.0 ∙ no_ in rw (e, no_) (filter-alike p q xs h.1)
]

-- numbers above a first one are members of a list with it exactly where they are of the rest
alike_above : (a : ℕ) (ns all : List ℕ) → AllByRecursion (λ m. a < m) all → AllByRecursion (λ n. is_member nat_eq (a ∷ ns) n ≡ is_member nat_eq ns n) all
alike_above a ns [] h = tt
alike_above a ns (n ∷ all) h = (elim (cases_Bool (nat_eq n a)) [ inl yes_ ↦ let e = eqb-true n a yes_ in let low = h.0 in absurd (omega arith) | inr no_ ↦ rw no_ refl ], alike_above a ns all h.1)

not_below : (a : ℕ) (ns : List ℕ) → AllByRecursion (λ m. a < m) ns → is_member nat_eq ns a ≡ false
not_below a ns above = elim (cases_Bool (is_member nat_eq ns a)) [ inl yes_ ↦ let low = above-member a a ns above yes_ in absurd (omega arith) | inr no_ ↦ no_ ]

none_among : (all : List ℕ) → filter (is_member nat_eq []) all ≡ []
none_among [] = refl
none_among (n ∷ all) = none_among all

among_first : (a : ℕ) (all ns : List ℕ) → Rises (a ∷ all) → filter (is_member nat_eq ns) all ≡ ns → filter (is_member nat_eq (a ∷ ns)) (a ∷ all) ≡ a ∷ ns
among_first a all ns up rest =
    let others : filter (is_member nat_eq (a ∷ ns)) all ≡ filter (is_member nat_eq ns) all = filter-alike (is_member nat_eq (a ∷ ns)) (is_member nat_eq ns) all (alike_above a ns all up.0) in
    rw (member-here a ns) (ap (λ more. a ∷ more) (others ∙ rest))

among_later : (a n : ℕ) (all ns : List ℕ) → Rises (a ∷ all) → AreIn all (n ∷ ns) → filter (is_member nat_eq (n ∷ ns)) all ≡ n ∷ ns → filter (is_member nat_eq (n ∷ ns)) (a ∷ all) ≡ n ∷ ns
among_later a n all ns up inside rest =
    let low : a < n = above-member a n all up.0 inside.1.0 in
    let not_here : is_member nat_eq (n ∷ ns) a ≡ false = not_below a (n ∷ ns) (low, all-above a n ns low inside.0.0) in
    rw not_here rest

-- they are what of the list is among them
pub numbers_among : (all ns : List ℕ) → Rises all → AreIn all ns → filter (is_member nat_eq ns) all ≡ ns
numbers_among all [] up h = none_among all
numbers_among [] (n ∷ ns) up h = absurd (let no = h.1.0 in cc)
numbers_among (a ∷ all) (n ∷ ns) up h = elim (cases_eq n a) [
  | inl same ↦
      let h2 : AreIn (a ∷ all) (a ∷ ns) = subst (λ m. AreIn (a ∷ all) (m ∷ ns)) same h in
      let found = among_first a all ns up (numbers_among all ns up.1 ((first_in a all ns up).0 h2)) in
      subst (λ m. filter (is_member nat_eq (m ∷ ns)) (a ∷ all) ≡ m ∷ ns) (sym same) found
  | inr other ↦
      let inside = (first_not_in a n all ns up other).0 h in
      among_later a n all ns up inside (numbers_among all (n ∷ ns) up.1 inside)
]

-- each of a list is a member of it
pub own_members : (ns : List ℕ) → AllByRecursion (λ n. is_member nat_eq ns n ≡ true) ns
own_members [] = tt
own_members (n ∷ ns) = (member-here n ns, members_more n ns ns (own_members ns))

-- the least of two lists with the same members is the same
same_first : (n m : ℕ) (ns ms : List ℕ) → Rises (n ∷ ns) → Rises (m ∷ ms) → is_member nat_eq (m ∷ ms) n ≡ true → is_member nat_eq (n ∷ ns) m ≡ true → n ≡ m
same_first n m ns ms a b f g = elim (member-cases m n ms f) [
  | inl same ↦ same
  | inr later ↦ elim (member-cases n m ns g) [
    | inl same ↦ sym same
    | inr more ↦ let one = above-member m n ms b.0 later in let other = above-member n m ns a.0 more in absurd (omega arith)
  ]
]

-- two lists that rise and have the same members are one
pub same_members : (ns ms : List ℕ) → Rises ns → Rises ms → AllByRecursion (λ n. is_member nat_eq ms n ≡ true) ns → AllByRecursion (λ n. is_member nat_eq ns n ≡ true) ms → ns ≡ ms
same_members [] [] a b f g = refl
same_members [] (m ∷ ms) a b f g = absurd (let none = g.0 in cc)
same_members (n ∷ ns) [] a b f g = absurd (let none = f.0 in cc)
same_members (n ∷ ns) (m ∷ ms) a b f g =
    let first : n ≡ m = same_first n m ns ms a b f.0 g.0 in
    let above : AllByRecursion (λ k. m < k) ns = subst (λ l. AllByRecursion (λ k. l < k) ns) first a.0 in
    let above' : AllByRecursion (λ k. n < k) ms = subst (λ l. AllByRecursion (λ k. l < k) ms) (sym first) b.0 in
    let rest = same_members ns ms a.1 b.1 (members_later m ms ns above f.1) (members_later n ns ms above' g.1) in
    ap (λ l. l ∷ ns) first ∙ ap (λ xs. m ∷ xs) rest
