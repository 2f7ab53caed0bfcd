-- The name that a word stands for: found by looking at one after the other.
use Rattle.std.proofs.Common.{◌≡◌, ℕ, zero, suc, ◌+◌, ◌<◌, ◌≤◌, true, false, List, [], ◌∷◌, drop, length, map, get_or, Option, Some, None, sym, ap, ◌∙◌, arith, drop-cons, inl, inr}
use Rattle.std.specs.Prelude.{Contains}
use Rattle.std.specs.Str.{bytes_eq}
use Rattle.std.proofs.lemmas.Bool.{cases_Bool, cond-true, cond-false}
use Rattle.std.proofs.lemmas.List.{drop_all}
use Rattle.std.proofs.lemmas.Slice.Eq.{bytes_eq-Decides}
use Rattle.ror_proof.specs.Names.{name_of}

next_of : {N : Type 0} (names : List N) (i : ℕ) (name : N) → i < length names → name ≡ get_or names i name → drop i names ≡ name ∷ drop (i + 1) names
next_of names i name inside is =
    let one : suc i ≡ i + 1 = omega arith in
    drop-cons names i name inside ∙ ap (λ n. n ∷ drop (suc i) names) (sym is) ∙ ap (λ k. name ∷ drop k names) one

-- the name that is next is found by its word
pub found_next : {N : Type 0} (word_of : N → List ℕ) (names : List N) (word : List ℕ) (i : ℕ) (name : N) (spelt : List ℕ) (whole : Option N) → i < length names → name ≡ get_or names i name → spelt ≡ word_of name → bytes_eq word spelt ≡ true
    → name_of word_of (drop i names) word ≡ whole → Some name ≡ whole
found_next word_of names word i name spelt whole inside is says same so_far =
    let split = next_of names i name inside is in
    let step : name_of word_of (drop i names) word ≡ Some name = ap (λ ns. name_of word_of ns word) split ∙ cond-true _ _ _ (ap (bytes_eq word) (sym says) ∙ same) in
    sym step ∙ so_far

-- and passed over by another
pub passed_over : {N : Type 0} (word_of : N → List ℕ) (names : List N) (word : List ℕ) (i : ℕ) (name : N) (spelt : List ℕ) (whole : Option N) → i < length names → name ≡ get_or names i name → spelt ≡ word_of name → bytes_eq word spelt ≡ false
    → name_of word_of (drop i names) word ≡ whole → name_of word_of (drop (i + 1) names) word ≡ whole
passed_over word_of names word i name spelt whole inside is says other so_far =
    let split = next_of names i name inside is in
    let step : name_of word_of (drop i names) word ≡ name_of word_of (drop (i + 1) names) word = ap (λ ns. name_of word_of ns word) split ∙ cond-false _ _ _ (ap (bytes_eq word) (sym says) ∙ other) in
    sym step ∙ so_far

pub none_left : {N : Type 0} (word_of : N → List ℕ) (names : List N) (word : List ℕ) (i : ℕ) (whole : Option N) → length names ≤ i → name_of word_of (drop i names) word ≡ whole → None ≡ whole
none_left word_of names word i whole past so_far = ap (λ ns. name_of word_of ns word) (sym (drop_all i names past)) ∙ so_far

-- ---- whether a word is one of them

pub named-there : {N : Type 0} (word_of : N → List ℕ) (names : List N) (word : List ℕ) (name : N) → name_of word_of names word ≡ Some name → Contains (map word_of names) word
named-there word_of [] word name e = absurd cc
named-there word_of (next ∷ names) word name e =
    elim (cases_Bool (bytes_eq word (word_of next))) [
      | inl same ↦ (0, omega arith, sym ((bytes_eq-Decides word (word_of next)).0 same))
      | inr other ↦
          let there = named-there word_of names word name (sym (cond-false _ _ _ other) ∙ e) in
          (suc there.0, omega (arith, there.1), there.2)
    ]

absent_at : {N : Type 0} (word_of : N → List ℕ) (names : List N) (word : List ℕ) → name_of word_of names word ≡ None → (k : ℕ) → k < length (map word_of names) → get_or (map word_of names) k word ≡ word → ⊥
absent_at word_of [] word e k inside is = absurd (omega (arith, inside))
absent_at word_of (next ∷ names) word e zero inside is = absurd (let some = sym (cond-true _ _ _ ((bytes_eq-Decides word (word_of next)).1 (sym is))) ∙ e in cc)
absent_at word_of (next ∷ names) word e (suc k) inside is =
    elim (cases_Bool (bytes_eq word (word_of next))) [
      | inl same ↦ absurd (let some = sym (cond-true _ _ _ same) ∙ e in cc)
      | inr other ↦ absent_at word_of names word (sym (cond-false _ _ _ other) ∙ e) k (omega (arith, inside)) is
    ]

pub not_named-absent : {N : Type 0} (word_of : N → List ℕ) (names : List N) (word : List ℕ) → name_of word_of names word ≡ None → Contains (map word_of names) word → ⊥
not_named-absent word_of names word e there = absent_at word_of names word e there.0 there.1 there.2
