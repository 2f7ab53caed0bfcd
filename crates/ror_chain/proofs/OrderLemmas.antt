-- Orders: what stands beside a node, what taking it out leaves, and where it comes back.
use Rattle.std.proofs.Common.{◌≡◌, ◌⊎◌, inl, inr, ℕ, ◌<◌, ◌≤◌, ◌==◌, zero, suc, nat_eq, false, Some, List, [], ◌∷◌, ◌++◌, reverse, length, refl, ap, sym, subst, ◌∙◌, arith, append_assoc, append-nil, eq-eqb, ne_eqb, eqb-true}
use Rattle.std.specs.List.{All, AllByRecursion, Contains, IsDistinct}
use Rattle.std.proofs.lemmas.Bool.{both_ways, eqb-false}
use Rattle.std.proofs.lemmas.List.{reverse-append, reverse-reverse}
use Rattle.std.proofs.lemmas.List.Elements.{Contains-append_left, Contains-append_right, Contains-append_cases, All-contains, All-contains_itself, All-weaker, Contains-get_or}
use Rattle.std.proofs.lemmas.Map.Keys.{IsDistinct-head, IsDistinct-tail, IsDistinct-cons}
use Rattle.std.proofs.lemmas.Map.Views.{Contains-from_any}
use Rattle.std.proofs.lemmas.Map.Steps.{length-le_from_distinct_below}
use Rattle.ror_chain.specs.Chain.{first_of, last_of, next_in, neighbours_in, without, put_after, with_node}

-- ---- nodes that are not in an order, and orders that have no node twice

abbrev pub Absent : ℕ → List ℕ → Type 0
Absent n [] = Unit {0}
Absent n (x ∷ xs) = ((x == n) ≡ false) × Absent n xs

abbrev pub Apart : List ℕ → Type 0
Apart [] = Unit {0}
Apart (x ∷ xs) = Absent x xs × Apart xs

eqb-flip : (x n : ℕ) → (x == n) ≡ false → (n == x) ≡ false
eqb-flip x n h = ne_eqb n x (λ e. eqb-false x n h (sym e))

Absent-from_all : (n : ℕ) (xs : List ℕ) → AllByRecursion (λ y. nat_eq n y ≡ false) xs → Absent n xs
Absent-from_all n [] h = tt
Absent-from_all n (x ∷ xs) h = (eqb-flip n x h.0, Absent-from_all n xs h.1)

all_from_Absent : (n : ℕ) (xs : List ℕ) → Absent n xs → AllByRecursion (λ y. nat_eq n y ≡ false) xs
all_from_Absent n [] h = tt
all_from_Absent n (x ∷ xs) h = (eqb-flip x n h.0, all_from_Absent n xs h.1)

pub Apart-from_distinct : (xs : List ℕ) → IsDistinct nat_eq xs → Apart xs
Apart-from_distinct [] h = tt
Apart-from_distinct (x ∷ xs) h = (Absent-from_all x xs (IsDistinct-head nat_eq x xs h), Apart-from_distinct xs (IsDistinct-tail nat_eq x xs h))

pub distinct_from_Apart : (xs : List ℕ) → Apart xs → IsDistinct nat_eq xs
unfolding IsDistinct
distinct_from_Apart [] h = tt
distinct_from_Apart (x ∷ xs) h = IsDistinct-cons nat_eq x xs (all_from_Absent x xs h.0) (distinct_from_Apart xs h.1)

pub Absent-append : (n : ℕ) (xs ys : List ℕ) → Absent n xs → Absent n ys → Absent n (xs ++ ys)
Absent-append n [] ys h k = k
Absent-append n (x ∷ xs) ys h k = (h.0, Absent-append n xs ys h.1 k)

pub Absent-parts : (n : ℕ) (xs ys : List ℕ) → Absent n (xs ++ ys) → Absent n xs × Absent n ys
Absent-parts n [] ys h = (tt, h)
Absent-parts n (x ∷ xs) ys h = let rest = Absent-parts n xs ys h.1 in ((h.0, rest.0), rest.1)

pub reverse-cons : (x : ℕ) (xs : List ℕ) → reverse (x ∷ xs) ≡ reverse xs ++ x ∷ []
reverse-cons x xs = reverse-append (x ∷ []) xs

pub Absent-reverse : (n : ℕ) (xs : List ℕ) → Absent n xs → Absent n (reverse xs)
Absent-reverse n [] h = tt
Absent-reverse n (x ∷ xs) h = subst (Absent n) (sym (reverse-cons x xs)) (Absent-append n (reverse xs) (x ∷ []) (Absent-reverse n xs h.1) (h.0, tt))

-- an order, cut at a node
pub record Cut (front : List ℕ) (n : ℕ) (back : List ℕ) : Type 0 where
  pub not_before : Absent n front
  pub not_after : Absent n back
  pub joined : Apart (front ++ back)

pub Apart-cut : (front : List ℕ) (n : ℕ) (back : List ℕ) → Apart (front ++ n ∷ back) → Cut front n back
Apart-cut [] n back h = record { not_before = tt; not_after = h.0; joined = h.1 }
Apart-cut (x ∷ front) n back h =
    let rest = Apart-cut front n back h.1 in
    let parts = Absent-parts x front (n ∷ back) h.0 in
    record {
      not_before = (eqb-flip n x parts.1.0, rest.not_before);
      not_after = rest.not_after;
      joined = (Absent-append x front back parts.0 parts.1.1, rest.joined);
    }

pub Apart-insert : (front : List ℕ) (n : ℕ) (back : List ℕ) → Apart (front ++ back) → Absent n (front ++ back) → Apart (front ++ n ∷ back)
Apart-insert [] n back h k = (k, h)
Apart-insert (x ∷ front) n back h k =
    let parts = Absent-parts x front back h.0 in
    (Absent-append x front (n ∷ back) parts.0 (eqb-flip x n k.0, parts.1), Apart-insert front n back h.1 k.1)

pub Apart-parts : (xs ys : List ℕ) → Apart (xs ++ ys) → Apart xs × Apart ys
Apart-parts [] ys h = (tt, h)
Apart-parts (x ∷ xs) ys h = let rest = Apart-parts xs ys h.1 in (((Absent-parts x xs ys h.0).0, rest.0), rest.1)

pub Apart-reverse : (xs : List ℕ) → Apart xs → Apart (reverse xs)
Apart-reverse [] h = tt
Apart-reverse (x ∷ xs) h =
    let whole : Apart (reverse xs ++ []) = subst Apart (sym (append-nil (reverse xs))) (Apart-reverse xs h.1) in
    let absent : Absent x (reverse xs ++ []) = subst (Absent x) (sym (append-nil (reverse xs))) (Absent-reverse x xs h.0) in
    subst Apart (sym (reverse-cons x xs)) (Apart-insert (reverse xs) x [] whole absent)

-- ---- the ends

pub data EndView : List ℕ → Type 0 where
  is_empty : EndView []
  ends_with : (front : List ℕ) (n : ℕ) → EndView (front ++ n ∷ [])

pub end_view : (xs : List ℕ) → EndView xs
end_view [] = is_empty
end_view (x ∷ xs) = more x xs (end_view xs)
  where
    more : (x : ℕ) (xs : List ℕ) → EndView xs → EndView (x ∷ xs)
    more x _ is_empty = ends_with [] x
    more x _ (ends_with front n) = ends_with (x ∷ front) n

pub last_of-push : (front : List ℕ) (n : ℕ) → last_of (front ++ n ∷ []) ≡ Some n
last_of-push front n = ap first_of (reverse-append front (n ∷ []))

-- the last of what stands before does not stand after
pub Absent-after_last : (front back : List ℕ) → Apart (front ++ back) → (n : ℕ) → last_of front ≡ Some n → Absent n back
Absent-after_last front back apart = by_end front (end_view front) apart
  where
    by_end : (front : List ℕ) → EndView front → Apart (front ++ back) → (n : ℕ) → last_of front ≡ Some n → Absent n back
    by_end _ is_empty apart n e = absurd cc
    by_end _ (ends_with front k) apart n e =
        let same : k ≡ n = let last = last_of-push front k in cc in
        let cut = Apart-cut front k back (subst Apart (append_assoc front (k ∷ []) back) apart) in
        subst (λ m. Absent m back) same cut.not_after

pub reverse-cut : (front : List ℕ) (n : ℕ) (back : List ℕ) → reverse (front ++ n ∷ back) ≡ reverse back ++ n ∷ reverse front
reverse-cut front n back =
    reverse-append front (n ∷ back) ∙ ap (λ xs. xs ++ reverse front) (reverse-cons n back) ∙ append_assoc (reverse back) (n ∷ []) (reverse front)

pub first_of-reverse : (xs : List ℕ) → last_of (reverse xs) ≡ first_of xs
first_of-reverse xs = ap first_of (reverse-reverse xs)

-- ---- beside a node

pub next_in-cut : (front : List ℕ) (n : ℕ) (back : List ℕ) → Absent n front → next_in (front ++ n ∷ back) n ≡ first_of back
next_in-cut [] n back h = rw (eq-eqb n n refl)
next_in-cut (x ∷ front) n back h = rw h.0 (next_in-cut front n back h.1)

pub neighbours_in-cut : (front : List ℕ) (n : ℕ) (back : List ℕ) → Apart (front ++ n ∷ back) → neighbours_in (front ++ n ∷ back) n ≡ record { previous = last_of front; next = first_of back }
neighbours_in-cut front n back h =
    let cut = Apart-cut front n back h in
    let previous : next_in (reverse (front ++ n ∷ back)) n ≡ last_of front = ap (λ xs. next_in xs n) (reverse-cut front n back) ∙ next_in-cut (reverse back) n (reverse front) (Absent-reverse n back cut.not_after) in
    let next = next_in-cut front n back cut.not_before in
    cc

-- ---- taken out, and put back

pub without-absent : (xs : List ℕ) (n : ℕ) → Absent n xs → without xs n ≡ xs
without-absent [] n h = refl
without-absent (x ∷ xs) n h = rw h.0 (ap (λ ys. x ∷ ys) (without-absent xs n h.1))

pub without-cut : (front : List ℕ) (n : ℕ) (back : List ℕ) → Absent n front → Absent n back → without (front ++ n ∷ back) n ≡ front ++ back
without-cut [] n back h k = rw (eq-eqb n n refl) (without-absent back n k)
without-cut (x ∷ front) n back h k = rw h.0 (ap (λ ys. x ∷ ys) (without-cut front n back h.1 k))

put_after-cut : (p n : ℕ) (front back : List ℕ) → Absent p front → put_after p n (front ++ p ∷ back) ≡ front ++ p ∷ n ∷ back
put_after-cut p n [] back h = rw (eq-eqb p p refl)
put_after-cut p n (x ∷ front) back h = rw h.0 (ap (λ ys. x ∷ ys) (put_after-cut p n front back h.1))

pub with_node-cut : (front back : List ℕ) (n : ℕ) → Apart (front ++ back) → with_node (last_of front) n (front ++ back) ≡ front ++ n ∷ back
with_node-cut front back n h = by_end front (end_view front) h
  where
    by_end : (front : List ℕ) → EndView front → Apart (front ++ back) → with_node (last_of front) n (front ++ back) ≡ front ++ n ∷ back
    by_end _ is_empty h = refl
    by_end _ (ends_with front p) h =
        let left : (front ++ p ∷ []) ++ back ≡ front ++ p ∷ back = append_assoc front (p ∷ []) back in
        let right : (front ++ p ∷ []) ++ n ∷ back ≡ front ++ p ∷ n ∷ back = append_assoc front (p ∷ []) (n ∷ back) in
        let cut = Apart-cut front p back (subst Apart left h) in
        ap (λ q. with_node q n ((front ++ p ∷ []) ++ back)) (last_of-push front p) ∙ ap (put_after p n) left ∙ put_after-cut p n front back cut.not_before ∙ sym right

-- ---- nodes of an order

pub Contains-cut : (front : List ℕ) (n : ℕ) (back : List ℕ) → Contains (front ++ n ∷ back) n
Contains-cut front n back = Contains-append_right front (n ∷ back) n (Contains-get_or (n ∷ back) 0 n (omega arith))

Contains-one : (n m : ℕ) → Contains (n ∷ []) m → n ≡ m
Contains-one n m (zero, within, is) = is
Contains-one n m (suc k, within, is) = absurd (omega arith)

pub cut_of : (xs : List ℕ) (n : ℕ) → Contains xs n → (front : List ℕ) × (back : List ℕ) × (xs ≡ front ++ n ∷ back)
cut_of [] n h = let within = h.1 in absurd (omega arith)
cut_of (x ∷ xs) n (zero, within, is) = let e : x ≡ n = is in ([], xs, ap (λ m. m ∷ xs) e)
cut_of (x ∷ xs) n (suc k, within, is) =
    let rest = cut_of xs n (k, omega arith, is) in
    (x ∷ rest.0, rest.1, ap (λ ys. x ∷ ys) rest.2)

-- the nodes of a cut order are the one that it is cut at and those of the parts
pub Contains-cut_cases : (front : List ℕ) (n : ℕ) (back : List ℕ) (m : ℕ) → Contains (front ++ n ∷ back) m → (n ≡ m) ⊎ Contains (front ++ back) m
Contains-cut_cases front n back m h = elim (Contains-append_cases front (n ∷ back) m h) [
  | inl before ↦ inr (Contains-append_left front back m before)
  | inr after ↦ elim (Contains-append_cases (n ∷ []) back m after) [
    | inl here ↦ inl (Contains-one n m here)
    | inr behind ↦ inr (Contains-append_right front back m behind)
  ]
]

pub Contains-wider : (front : List ℕ) (n : ℕ) (back : List ℕ) (m : ℕ) → Contains (front ++ back) m → Contains (front ++ n ∷ back) m
Contains-wider front n back m h = elim (Contains-append_cases front back m h) [
  | inl before ↦ Contains-append_left front (n ∷ back) m before
  | inr after ↦ Contains-append_right front (n ∷ back) m (Contains-append_right (n ∷ []) back m after)
]

pub absent_not_contained : (xs : List ℕ) (n : ℕ) → Absent n xs → Contains xs n → ⊥
absent_not_contained xs n h k =
    let cut = cut_of xs n k in
    let here = (Absent-parts n cut.0 (n ∷ cut.1) (subst (Absent n) cut.2 h)).1.0 in
    both_ways (n == n) here (eq-eqb n n refl)

pub Absent-from_not : (xs : List ℕ) (n : ℕ) → (Contains xs n → ⊥) → Absent n xs
Absent-from_not [] n h = tt
Absent-from_not (x ∷ xs) n h = (ne_eqb x n (λ e. h (subst (λ m. Contains (x ∷ xs) m) e (Contains-cut [] x xs))), Absent-from_not xs n (λ k. h (Contains-wider [] x xs n k)))

pub All-from_nodes : (P : ℕ → Type 0) (xs : List ℕ) → ((n : ℕ) → Contains xs n → P n) → All P xs
All-from_nodes P xs h = All-weaker (Contains xs) P h xs (All-contains_itself xs)

-- nodes below a number, of which no two are the same, are at most so many
pub length-le_below : (xs : List ℕ) (most : ℕ) → IsDistinct nat_eq xs → All (λ n. n < most) xs → length xs ≤ most
length-le_below xs most h below = length-le_from_distinct_below xs most h (λ n any. All-contains (λ m. m < most) xs n below (Contains-from_any eqb-true n xs any))
