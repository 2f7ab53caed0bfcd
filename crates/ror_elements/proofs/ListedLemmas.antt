-- What is kept are the rows of the table.
use Rattle.std.proofs.Common.{◌≡◌, ℕ, Bool, true, false, not, List, [], ◌∷◌, map, refl, sym, ap, ◌∙◌, inl, inr}
use Rattle.std.specs.Prelude.{◌⊎◌, ◌↔◌, ◌&&◌, ◌||◌}
use Rattle.std.specs.List.{list_any, list_all}
use Rattle.std.specs.Str.{bytes_eq}
use Rattle.std.proofs.lemmas.Slice.Eq.{bytes_eq-Decides}
use Rattle.ror_elements.specs.declared.kept_elements.TheConstants.{KEPT}
use Rattle.ror_elements.specs.Kept.{is_kept, is_row}
use Rattle.ror_elements.specs.Laws.{KeptElementsAreListed}
use Rattle.ror_elements.specs.Listed.{Children, named, all, Row, rows, Takes, IsListedIn}

-- what stands in the code for some children
abbrev written : Children → List ℕ
written (named name) = name
written all = 42 ∷ []

-- no name is the sign for all
abbrev is_plain : Row → Bool
is_plain (path, named name) = not (bytes_eq name (42 ∷ []))
is_plain (path, all) = true

are_plain : list_all is_plain rows ≡ true
unfolding rows
are_plain = refl

-- a parent and a child, as they stand in the code
abbrev Pair : Type 0
Pair = List ℕ × List ℕ

abbrev pair_of : Row → Pair
pair_of row = (row.0, written row.1)

are_rows : map (λ row. (row.0.now, row.1.now)) KEPT ≡ map pair_of rows
unfolding rows
are_rows = refl

any_map : {A : Type 0} (test : Pair → Bool) (f : A → Pair) (xs : List A) → list_any (λ x. test (f x)) xs ≡ list_any test (map f xs)
any_map test f [] = refl
any_map test f (x ∷ xs) = ap (λ rest. test (f x) || rest) (any_map test f xs)

-- ---- one row

pub both : (p q : Bool) → (p && q) ≡ true → (p ≡ true) × (q ≡ true)
both true q e = (refl, e)
both false q e = absurd cc

pub either : (p q : Bool) → (p || q) ≡ true → (p ≡ true) ⊎ (q ≡ true)
either true q e = inl refl
either false q e = inr e

first_true : (p q : Bool) → p ≡ true → (p || q) ≡ true
first_true true q e = refl
first_true false q e = absurd cc

second_true : (p q : Bool) → q ≡ true → (p || q) ≡ true
second_true true q e = refl
second_true false q e = e

both_true : (p q : Bool) → p ≡ true → q ≡ true → (p && q) ≡ true
both_true true q e f = f
both_true false q e f = absurd cc

not_both : (p : Bool) → not p ≡ true → p ≡ true → ⊥
not_both true e f = absurd cc
not_both false e f = absurd cc

takes : (children : Children) (path name : List ℕ) → is_plain (path, children) ≡ true → (bytes_eq (written children) name || bytes_eq (written children) (42 ∷ [])) ≡ true → Takes children name
takes (named child) path name p e = elim (either (bytes_eq child name) (bytes_eq child (42 ∷ [])) e) [
  | inl same ↦ (bytes_eq-Decides child name).0 same
  | inr sign ↦ absurd (not_both (bytes_eq child (42 ∷ [])) p sign)
]
takes all path name p e = tt

taken : (children : Children) (name : List ℕ) → Takes children name → (bytes_eq (written children) name || bytes_eq (written children) (42 ∷ [])) ≡ true
taken (named child) name e = first_true (bytes_eq child name) (bytes_eq child (42 ∷ [])) ((bytes_eq-Decides child name).1 e)
taken all name e = second_true (bytes_eq (42 ∷ []) name) true refl

-- ---- all rows

listed : (some : List Row) (path name : List ℕ) → list_all is_plain some ≡ true → list_any (λ (row : Row). is_row path name row.0 (written row.1)) some ≡ true → IsListedIn some path name
listed [] path name p e = absurd cc
listed (row ∷ more) path name p e =
    let plain = both (is_plain row) (list_all is_plain more) p in
    elim (either (is_row path name row.0 (written row.1)) (list_any (λ (row : Row). is_row path name row.0 (written row.1)) more) e) [
      | inl here ↦
          let h = both (bytes_eq row.0 path) (bytes_eq (written row.1) name || bytes_eq (written row.1) (42 ∷ [])) here in
          inl ((bytes_eq-Decides row.0 path).0 h.0, takes row.1 row.0 name plain.0 h.1)
      | inr later ↦ inr (listed more path name plain.1 later)
    ]

found : (some : List Row) (path name : List ℕ) → IsListedIn some path name → list_any (λ (row : Row). is_row path name row.0 (written row.1)) some ≡ true
found [] path name h = absurd h
found (row ∷ more) path name (inl h) =
    first_true (is_row path name row.0 (written row.1)) _ (both_true (bytes_eq row.0 path) (bytes_eq (written row.1) name || bytes_eq (written row.1) (42 ∷ [])) ((bytes_eq-Decides row.0 path).1 h.0) (taken row.1 name h.1))
found (row ∷ more) path name (inr h) = second_true (is_row path name row.0 (written row.1)) _ (found more path name h)

any_listed : {A : Type 0} (kept : List A) (parent child : A → List ℕ) (some : List Row) → map (λ x. (parent x, child x)) kept ≡ map pair_of some → list_all is_plain some ≡ true
    → (path name : List ℕ) → (list_any (λ x. is_row path name (parent x) (child x)) kept ≡ true) ↔ IsListedIn some path name
any_listed kept parent child some e plain path name =
    let test : Pair → Bool = λ x. is_row path name x.0 x.1 in
    let same = any_map test (λ x. (parent x, child x)) kept ∙ ap (list_any test) e ∙ sym (any_map test pair_of some) in (
      λ is. listed some path name plain (sym same ∙ is),
      λ h. same ∙ found some path name h,
    )

pub kept_elements_are_listed : KeptElementsAreListed
unfolding is_kept
kept_elements_are_listed path name = any_listed KEPT (λ row. row.0.now) (λ row. row.1.now) rows are_rows are_plain path name
