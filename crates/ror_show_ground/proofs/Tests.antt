-- What the tests of some of the first numbers tell, lists that are made piece by piece, and truth values.
use Rattle.std.proofs.Common.{◌≡◌, ℕ, zero, suc, ◌+◌, ◌<◌, ◌≤◌, ◌++◌, Bool, true, false, not, ◌&&◌, List, [], ◌∷◌, refl, ap, sym, ◌∙◌, arith, append_assoc, inl, inr, ltb, get_or, subst, map}
use Rattle.std.specs.Prelude.{◌⊎◌, Contains}
use Rattle.std.specs.List.{flat_map, range_with_len}
use Rattle.std.proofs.lemmas.Bool.{ltb-true, ltb-false}
use Rattle.std.proofs.lemmas.List.{append-nil}
use Rattle.std.proofs.lemmas.List.FromFn.{map-range_with_len_more}
use Rattle.std.proofs.lemmas.List.Concat.{flat_map-append}
use Rattle.std.proofs.lemmas.List.Elements.{Contains-append_left, Contains-append_right, Contains-append_cases}
use Rattle.ror_text.proofs.ListLemmas.{range_more}

pub less_or : (a b : ℕ) → (a < b) ⊎ (b ≤ a)
less_or a b = by (ltb a b) refl
  where
    by : (t : Bool) → ltb a b ≡ t → (a < b) ⊎ (b ≤ a)
    by true is = inl (ltb-true a b is)
    by false is = inr (ltb-false a b is)

pub both-true : (p q : Bool) → (p && q) ≡ true → (p ≡ true) × (q ≡ true)
both-true true q is = (refl, is)
both-true false q is = absurd cc

pub not-true : (p : Bool) → not p ≡ true → p ≡ false
not-true true is = absurd cc
not-true false is = refl

pub true-or-false : (p : Bool) → (p ≡ true) ⊎ (p ≡ false)
true-or-false true = inl refl
true-or-false false = inr refl

-- ---- lists

-- the piece of one number more
pub pieces_more : {X : Type 0} (f : ℕ → List X) (i : ℕ) (old before after : List X) → before ≡ old ++ flat_map f (range_with_len 0 i) → after ≡ before ++ f i → after ≡ old ++ flat_map f (range_with_len 0 (i + 1))
pieces_more {X} f i old before after so_far pushed =
    let all : flat_map f (range_with_len 0 (i + 1)) ≡ flat_map f (range_with_len 0 i) ++ f i =
    (ap (flat_map f) (range_more 0 i i (omega arith)) ∙ flat_map-append f (range_with_len 0 i) (i ∷ []) ∙ ap (λ (qs : List X). flat_map f (range_with_len 0 i) ++ qs) (append-nil (f i))) in
    pushed ∙ ap (λ (qs : List X). qs ++ f i) so_far ∙ append_assoc old (flat_map f (range_with_len 0 i)) (f i) ∙ ap (λ (qs : List X). old ++ qs) (sym all)

-- a list made from the numbers, of one number more
pub mapped_more : {X : Type 0} (f : ℕ → X) (i : ℕ) (before after : List X) → before ≡ map f (range_with_len 0 i) → after ≡ before ++ f i ∷ [] → after ≡ map f (range_with_len 0 (i + 1))
mapped_more {X} f i before after so_far pushed =
    let more = map-range_with_len_more f 0 i i (omega arith) in
    pushed ∙ ap (λ (xs : List X). xs ++ f i ∷ []) so_far ∙ sym more

pub nothing-in : {X : Type 0} (x : X) → Contains [] x → ⊥
nothing-in x there = omega (arith, there.1)

pub only-in : {X : Type 0} (x y : X) → Contains (y ∷ []) x → y ≡ x
only-in {X} x y there = at there.0 there.1 there.2
  where
    at : (k : ℕ) → k < 1 → get_or (y ∷ []) k x ≡ x → y ≡ x
    at zero below is = is
    at (suc k) below is = absurd (omega arith)

pub one-in : {X : Type 0} (x : X) → Contains (x ∷ []) x
one-in x = (0, omega arith, refl)

-- an element of a piece is an element of all
pub in-pieces : {X : Type 0} (f : ℕ → List X) (first n i : ℕ) (x : X) → first ≤ i → i < first + n → Contains (f i) x → Contains (flat_map f (range_with_len first n)) x
in-pieces f first zero i x least most there = absurd (omega arith)
in-pieces {X} f first (suc n) i x least most there = by (less_or first i) (λ after. in-pieces f (first + 1) n i x after (omega arith) there)
  where
    by : (first < i) ⊎ (i ≤ first) → (first + 1 ≤ i → Contains (flat_map f (range_with_len (first + 1) n)) x) → Contains (f first ++ flat_map f (range_with_len (first + 1) n)) x
    by (inl after) more = Contains-append_right (f first) (flat_map f (range_with_len (first + 1) n)) x (more (omega arith))
    by (inr upto) more = let same : i ≡ first = omega arith in Contains-append_left (f first) (flat_map f (range_with_len (first + 1) n)) x (subst (λ (j : ℕ). Contains (f j) x) same there)

-- and an element of all is one of a piece
pub record InPiece {X : Type 0} (f : ℕ → List X) (first n : ℕ) (x : X) : Type 0 where
  pub at : ℕ
  pub least : first ≤ at
  pub most : at < first + n
  pub there : Contains (f at) x

pub of-pieces : {X : Type 0} (f : ℕ → List X) (first n : ℕ) (x : X) → Contains (flat_map f (range_with_len first n)) x → InPiece f first n x
of-pieces f first zero x there = absurd (nothing-in x there)
of-pieces {X} f first (suc n) x there = by (Contains-append_cases (f first) (flat_map f (range_with_len (first + 1) n)) x there) (of-pieces f (first + 1) n x)
  where
    by : Contains (f first) x ⊎ Contains (flat_map f (range_with_len (first + 1) n)) x → (Contains (flat_map f (range_with_len (first + 1) n)) x → InPiece f (first + 1) n x) → InPiece f first (suc n) x
    by (inl here) more = record { at = first; least = omega arith; most = omega arith; there = here }
    by (inr later) more = let rest : InPiece f (first + 1) n x = more later in record { at = rest.at; least = omega (arith, rest.least); most = omega (arith, rest.most); there = rest.there }
