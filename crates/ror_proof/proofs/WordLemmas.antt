-- The words of a line, both ways: what was written is read again, and what is read was so written.
use Rattle.std.proofs.Common.{◌≡◌, ℕ, ◌<◌, ◌^◌, Bool, true, false, eqb, cond, List, [], ◌∷◌, ◌++◌, length, map, Option, Some, Result, Ok, Err, refl, sym, ap, subst, ◌∙◌, arith, inl, inr, ℤ}
use Rattle.std.specs.Prelude.{codes}
use Rattle.std.specs.Fmt.{decimal, signed_decimal}
use Rattle.std.specs.List.{AllByRecursion}
use Rattle.std.specs.Str.{bytes_eq}
use Rattle.std.proofs.lemmas.Bool.{cases_Bool, ne_eqb, cond-true, cond-false}
use Rattle.std.proofs.lemmas.Slice.Eq.{bytes_eq-Decides}
use Rattle.ror_text.specs.Numbers.{number_of, small_number_of}
use Rattle.ror_text.specs.Reading.{◌>>=◌, refuse, need}
use Rattle.ror_text.proofs.NumberLemmas.{small_number_of-decimal, small_number_of-sound, decimal_some, number_of-signed_decimal, number_of-sound, signed_decimal_some, signed_decimal-ne_bar}
use Rattle.ror_text.proofs.ReadingLemmas.{bind_ok, need_ok}
use Rattle.ror_system.specs.System.{IsNarrow}
use Rattle.ror_proof.specs.declared.read.ProofFault.{ProofFault}
use Rattle.ror_proof.specs.declared.read.ProofFault.TheVariants.{BadLine, BadNumber}
use Rattle.ror_proof.specs.Words.{after_word, name_at, no_more, number_in, small_number_at, all_at, numbers_at, numbers_before_bar}
use Rattle.ror_proof.specs.Names.{name_of}
use Rattle.ror_text.proofs.ListLemmas.{bytes_apart, bytes_same}

-- ---- results

abbrev pub done : {A : Type 0} → A → Result A ProofFault
done x = Ok x

pub ok_is : {A : Type 0} (x y : A) → done x ≡ done y → x ≡ y
ok_is x y e = cc

-- ---- single words

pub after_word_again : (place : ℕ) (word : List ℕ) (more : List (List ℕ)) → after_word place word (word ∷ more) ≡ Ok more
unfolding after_word
after_word_again place word more = rw (bytes_same word) refl

-- a test that was passed
chosen : {A F : Type 0} (b : Bool) (x y : A) (f : F) → cond b (Ok x) (Err f) ≡ Ok y → (b ≡ true) × (x ≡ y)
chosen true x y f e = (refl, cc)
chosen false x y f e = absurd cc

pub after_word_sound : (place : ℕ) (expected : List ℕ) (words more : List (List ℕ)) → after_word place expected words ≡ Ok more → words ≡ expected ∷ more
unfolding after_word
after_word_sound place expected [] more e = absurd cc
after_word_sound place expected (word ∷ words) more e =
    let c = chosen (bytes_eq word expected) words more (BadLine place) e in
    let same : word ≡ expected = (bytes_eq-Decides word expected).0 c.0 in
    ap (λ (w : List ℕ). w ∷ words) same ∙ ap (λ (ws : List (List ℕ)). expected ∷ ws) c.1

pub no_more_sound : (place : ℕ) (words : List (List ℕ)) (x : Unit {0}) → no_more place words ≡ Ok x → words ≡ []
no_more_sound place [] x e = refl
no_more_sound place (word ∷ words) x e = absurd cc

-- a word that says a number
pub number_again : {A : Type 0} (number : List ℕ → Option A) (place : ℕ) (word : List ℕ) (n : A) → 0 < length word → number word ≡ Some n → number_in number place word ≡ Ok n
number_again number place word n some is = rw (ne_eqb (length word) 0 (λ (e : length word ≡ 0). omega arith), is) refl

pub number_sound : {A : Type 0} (number : List ℕ → Option A) (place : ℕ) (word : List ℕ) (n : A) → number_in number place word ≡ Ok n → number word ≡ Some n
number_sound number place word n e =
    let b = bind_ok (refuse (BadLine place) (eqb (length word) 0)) (λ _. need (BadNumber place) (number word)) n e in
    need_ok (BadNumber place) (number word) n b.2

signed_again : (place : ℕ) (z : ℤ) → IsNarrow z → number_in number_of place (signed_decimal z) ≡ Ok z
signed_again place z narrow = number_again number_of place (signed_decimal z) z (signed_decimal_some z (omega arith)) (number_of-signed_decimal z narrow)

-- ---- what all words say

pub all_again : {X : Type 0} (read : List ℕ → Result X ProofFault) (word_of : X → List ℕ) (P : X → Type 0) → ((x : X) → P x → read (word_of x) ≡ Ok x) → (xs : List X) → AllByRecursion P xs → all_at read (map word_of xs) ≡ Ok xs
unfolding all_at
all_again read word_of P each [] h = refl
all_again read word_of P each (x ∷ xs) h = rw (each x h.0, all_again read word_of P each xs h.1) refl

pub all_sound : {X : Type 0} (read : List ℕ → Result X ProofFault) (word_of : X → List ℕ) (P : X → Type 0) → ((word : List ℕ) (x : X) → read word ≡ Ok x → (word ≡ word_of x) × P x) → (words : List (List ℕ)) (xs : List X) → all_at read words ≡ Ok xs → (words ≡ map word_of xs) × AllByRecursion P xs
unfolding all_at
all_sound read word_of P each [] xs e = subst (λ ys. ([] ≡ map word_of ys) × AllByRecursion P ys) (ok_is [] xs e) (refl, tt)
all_sound read word_of P each (word ∷ words) xs e =
    let a = bind_ok (read word) (λ first. all_at read words >>= λ others. done (first ∷ others)) xs e in
    let b = bind_ok (all_at read words) (λ others. done (a.0 ∷ others)) xs a.2 in
    let first = each word a.0 a.1 in
    let others = all_sound read word_of P each words b.0 b.1 in
    subst (λ ys. (word ∷ words ≡ map word_of ys) × AllByRecursion P ys) (ok_is (a.0 ∷ b.0) xs b.2) (cc (first.0, others.0), (first.1, others.1))

-- ---- numbers

pub numbers_again : (place : ℕ) (zs : List ℤ) → AllByRecursion IsNarrow zs → numbers_at place (map signed_decimal zs) ≡ Ok zs
numbers_again place zs narrow = all_again (number_in number_of place) signed_decimal IsNarrow (signed_again place) zs narrow

pub numbers_sound : (place : ℕ) (words : List (List ℕ)) (zs : List ℤ) → numbers_at place words ≡ Ok zs → (words ≡ map signed_decimal zs) × AllByRecursion IsNarrow zs
numbers_sound place words zs e = all_sound (number_in number_of place) signed_decimal IsNarrow (λ word z one. number_of-sound word z (number_sound number_of place word z one)) words zs e

pub small_number_again : (place n : ℕ) (more : List (List ℕ)) → n < 2 ^ 32 → small_number_at place (decimal n ∷ more) ≡ Ok (n, more)
unfolding small_number_at
small_number_again place n more small = rw (number_again small_number_of place (decimal n) n (decimal_some n (omega arith)) (small_number_of-decimal n small)) refl

pub small_number_sound : (place : ℕ) (words : List (List ℕ)) (x : ℕ × List (List ℕ)) → small_number_at place words ≡ Ok x → (words ≡ decimal x.0 ∷ x.1) × (x.0 < 2 ^ 32)
unfolding small_number_at
small_number_sound place [] x e = absurd cc
small_number_sound place (word ∷ words) x e =
    let a = bind_ok (number_in small_number_of place word) (λ number. done (number, words)) x e in
    let number = small_number_of-sound word a.0 (number_sound small_number_of place word a.0 a.1) in
    subst (λ (y : ℕ × List (List ℕ)). (word ∷ words ≡ decimal y.0 ∷ y.1) × (y.0 < 2 ^ 32)) (ok_is (a.0, words) x a.2) (ap (λ (w : List ℕ). w ∷ words) number.0, number.1)

-- ---- names

pub name_again : {N : Type 0} (word_of : N → List ℕ) (names : List N) (place : ℕ) (name : N) (more : List (List ℕ)) → name_of word_of names (word_of name) ≡ Some name → name_at word_of names place (word_of name ∷ more) ≡ Ok (name, more)
unfolding name_at
name_again word_of names place name more found = rw found refl

pub name_found : {N : Type 0} (word_of : N → List ℕ) (names : List N) (word : List ℕ) (name : N) → name_of word_of names word ≡ Some name → word ≡ word_of name
name_found word_of [] word name e = absurd cc
name_found word_of (next ∷ names) word name e =
    elim (cases_Bool (bytes_eq word (word_of next))) [
      | inl same ↦
          let is : Some next ≡ Some name = sym (cond-true _ _ _ same) ∙ e in
          (bytes_eq-Decides word (word_of next)).0 same ∙ ap word_of (some_is next name is)
      | inr other ↦ name_found word_of names word name (sym (cond-false _ _ _ other) ∙ e)
    ]
  where
    some_is : {N : Type 0} (x y : N) → Some x ≡ Some y → x ≡ y
    some_is x y e = cc

pub name_sound : {N : Type 0} (word_of : N → List ℕ) (names : List N) (place : ℕ) (words : List (List ℕ)) (x : N × List (List ℕ)) → name_at word_of names place words ≡ Ok x → words ≡ word_of x.0 ∷ x.1
unfolding name_at
name_sound word_of names place [] x e = absurd cc
name_sound word_of names place (word ∷ words) x e =
    let a = bind_ok (need (BadLine place) (name_of word_of names word)) (λ name. done (name, words)) x e in
    let found = name_found word_of names word a.0 (need_ok (BadLine place) (name_of word_of names word) a.0 a.1) in
    subst (λ y. word ∷ words ≡ word_of y.0 ∷ y.1) (ok_is (a.0, words) x a.2) (ap (λ (w : List ℕ). w ∷ words) found)

-- ---- numbers up to the bar

pub before_bar_again : (place : ℕ) (zs : List ℤ) (more : List (List ℕ)) → AllByRecursion IsNarrow zs → numbers_before_bar place (map signed_decimal zs ++ codes "|" ∷ more) ≡ Ok (zs, more)
unfolding numbers_before_bar
before_bar_again place [] more narrow = refl
before_bar_again place (z ∷ zs) more narrow =
    let other : bytes_eq (signed_decimal z) (codes "|") ≡ false = bytes_apart (signed_decimal z) (codes "|") (signed_decimal-ne_bar z [] (omega (arith, narrow.0))) in
    rw (other, signed_again place z narrow.0, before_bar_again place zs more narrow.1) refl

pub before_bar_sound : (place : ℕ) (words : List (List ℕ)) (x : List ℤ × List (List ℕ)) → numbers_before_bar place words ≡ Ok x → (words ≡ map signed_decimal x.0 ++ codes "|" ∷ x.1) × AllByRecursion IsNarrow x.0
unfolding numbers_before_bar
before_bar_sound place [] x e = absurd cc
before_bar_sound place (word ∷ words) x e =
    elim (cases_Bool (bytes_eq word (codes "|"))) [
      | inl bar ↦
          let is : word ≡ codes "|" = (bytes_eq-Decides word (codes "|")).0 bar in
          subst (λ (y : List ℤ × List (List ℕ)). (word ∷ words ≡ map signed_decimal y.0 ++ codes "|" ∷ y.1) × AllByRecursion IsNarrow y.0) (ok_is ([], words) x (sym (cond-true _ _ _ bar) ∙ e)) (ap (λ (w : List ℕ). w ∷ words) is, tt)
      | inr other ↦
          let a = bind_ok (number_in number_of place word) (λ first. numbers_before_bar place words >>= λ others. Ok (first ∷ others.0, others.1)) x (sym (cond-false _ _ _ other) ∙ e) in
          let b = bind_ok (numbers_before_bar place words) (λ others. Ok (a.0 ∷ others.0, others.1)) x a.2 in
          let first = number_of-sound word a.0 (number_sound number_of place word a.0 a.1) in
          let others = before_bar_sound place words b.0 b.1 in
          subst (λ (y : List ℤ × List (List ℕ)). (word ∷ words ≡ map signed_decimal y.0 ++ codes "|" ∷ y.1) × AllByRecursion IsNarrow y.0) (ok_is (a.0 ∷ b.0.0, b.0.1) x b.2) (cc (first.0, others.0), (first.1, others.1))
    ]
