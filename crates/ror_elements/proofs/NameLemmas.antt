-- The names that references have, and the characters for which they stand.
use Rattle.std.proofs.Common.{◌≡◌, ℕ, ◌<◌, ◌≤◌, Bool, true, false, not, List, [], ◌∷◌, Option, Some, None, Ok, refl, sym, ap, subst, ◌∙◌, arith, inl, inr}
use Rattle.std.specs.Prelude.{◌==◌, ◌&&◌, ◌||◌, ◌⊎◌, if◌then◌else◌, nat_lt, nat_le}
use Rattle.std.specs.Char.{IsScalar}
use Rattle.std.specs.List.{AllByRecursion}
use Rattle.std.specs.Str.{bytes_eq}
use Rattle.std.proofs.lemmas.Bool.{and_parts, and_from, eqb-true, ltb-true, lt-ltb, false_from_ne_true}
use Rattle.std.proofs.lemmas.Slice.Eq.{bytes_eq-Decides}
use Rattle.ror_text.specs.Reading.{refuse, need}
use Rattle.ror_text.proofs.ReadingLemmas.{bind_ok, need_ok}
use Rattle.ror_elements.specs.declared.element.ElementKind.TheVariants as kinds
use Rattle.ror_elements.specs.Faults.{fault}
use Rattle.ror_elements.specs.Grammar.{AreDigits, IsCharacter, Names}
use Rattle.ror_elements.specs.Marks.{is_name_byte}
use Rattle.ror_elements.specs.Open.{is_none}
use Rattle.ror_elements.specs.References.{entity, digit_value, are_digits, digits_number, number_in, number_of, character_at, chosen, character_of}

-- ---- from a name to its character

digits_pass : (base : ℕ) (digits : List ℕ) → AllByRecursion (λ digit. digit_value digit < base) digits → are_digits base digits ≡ true
digits_pass base [] all = refl
digits_pass base (digit ∷ digits) all = and_from _ _ (lt-ltb (digit_value digit) base all.0) (digits_pass base digits all.1)

number_in-digits : (base : ℕ) (digits : List ℕ) → AreDigits base digits → number_in base digits ≡ Some (digits_number base digits)
number_in-digits base [] h = absurd (h.1 refl)
number_in-digits base (digit ∷ digits) h = rw (digits_pass base (digit ∷ digits) h.0) refl

pub character_at-code : (code : ℕ) → IsCharacter code → character_at code ≡ Some code
character_at-code code h = rw (lt-ltb 0 code h.0, scalar_or (nat_lt code 0xD800) (nat_le 0xE000 code && nat_lt code 0x110000) h.1) refl
  where
    scalar_or : (s t : Bool) → (if s then true else t) ≡ true → (s || t) ≡ true
    scalar_or true t e = refl
    scalar_or false t e = e

no_letter : (digit : ℕ) → digit_value digit < 10 → (digit == 120) ≡ false
no_letter digit low = false_from_ne_true (digit == 120) (λ e.
    let same : digit_value digit ≡ 16 = ap digit_value (eqb-true digit 120 e) in
    absurd (omega (arith, same, low)))

pub decimal_number : (digits : List ℕ) → AreDigits 10 digits → number_of (35 ∷ digits) ≡ Some (digits_number 10 digits)
unfolding number_of
decimal_number [] h = absurd (h.1 refl)
decimal_number (digit ∷ digits) h = rw (no_letter digit h.0.0) (number_in-digits 10 (digit ∷ digits) h)

pub hexadecimal_number : (digits : List ℕ) → AreDigits 16 digits → number_of (35 ∷ 120 ∷ digits) ≡ Some (digits_number 16 digits)
unfolding number_of
hexadecimal_number digits h = number_in-digits 16 digits h

no_entity : (name : List ℕ) → entity (35 ∷ name) ≡ None
unfolding entity
no_entity name = refl

chosen_number : (line code : ℕ) (named number : Option ℕ) → named ≡ None → number ≡ Some code → IsCharacter code → chosen line named number ≡ Ok code
chosen_number line code named number none some h = rw (none, some) (ap (need (fault kinds.BadMarkup line)) (character_at-code code h))

pub named : (line : ℕ) (name : List ℕ) (code : ℕ) → Names name code → character_of line name ≡ Ok code
unfolding character_of entity
named line name code Names.less = refl
named line name code Names.greater = refl
named line name code Names.ampersand = refl
named line name code Names.double_quote = refl
named line name code Names.single_quote = refl
named line name code (Names.decimal digits h c) = chosen_number line code _ _ (no_entity digits) (decimal_number digits h) c
named line name code (Names.hexadecimal digits h c) = chosen_number line code _ _ (no_entity (120 ∷ digits)) (hexadecimal_number digits h) c

-- ---- the bytes of a name

-- what may stand between `&` and `;`
abbrev pub is_reference_byte : ℕ → Bool
is_reference_byte byte = not (byte == 59) && is_name_byte byte

-- a digit is no byte that ends a name
no_digit : (byte other : ℕ) → digit_value byte < 16 → digit_value other ≡ 16 → (byte == other) ≡ false
no_digit byte other low none = false_from_ne_true (byte == other) (λ e.
    let same : digit_value byte ≡ 16 = ap digit_value (eqb-true byte other e) ∙ none in
    absurd (omega (arith, same, low)))

digit_byte : (byte : ℕ) → digit_value byte < 16 → is_reference_byte byte ≡ true
digit_byte byte low =
    rw (
      no_digit byte 59 low refl,
      no_digit byte 32 low refl,
      no_digit byte 9 low refl,
      no_digit byte 10 low refl,
      no_digit byte 13 low refl,
      no_digit byte 60 low refl,
      no_digit byte 62 low refl,
      no_digit byte 47 low refl,
      no_digit byte 61 low refl,
      no_digit byte 38 low refl,
      no_digit byte 34 low refl,
      no_digit byte 39 low refl,
    ) refl

digits_bytes : (base : ℕ) (digits : List ℕ) → base ≤ 16 → AllByRecursion (λ digit. digit_value digit < base) digits → AllByRecursion (λ byte. is_reference_byte byte ≡ true) digits
digits_bytes base [] small all = tt
digits_bytes base (digit ∷ digits) small all = (digit_byte digit (omega arith), digits_bytes base digits small all.1)

pub name_bytes : (name : List ℕ) (code : ℕ) → Names name code → AllByRecursion (λ byte. is_reference_byte byte ≡ true) name
name_bytes name code Names.less = (refl, (refl, tt))
name_bytes name code Names.greater = (refl, (refl, tt))
name_bytes name code Names.ampersand = (refl, (refl, (refl, tt)))
name_bytes name code Names.double_quote = (refl, (refl, (refl, (refl, tt))))
name_bytes name code Names.single_quote = (refl, (refl, (refl, (refl, tt))))
name_bytes name code (Names.decimal digits h c) = (refl, digits_bytes 10 digits (omega arith) h.0)
name_bytes name code (Names.hexadecimal digits h c) = (refl, (refl, digits_bytes 16 digits (omega arith) h.0))

-- ---- from a character to its name

are_digits-all : (base : ℕ) (digits : List ℕ) → are_digits base digits ≡ true → AllByRecursion (λ digit. digit_value digit < base) digits
are_digits-all base [] e = tt
are_digits-all base (digit ∷ digits) e =
    let parts = and_parts (nat_lt (digit_value digit) base) (are_digits base digits) e in
    (ltb-true (digit_value digit) base parts.0, are_digits-all base digits parts.1)

pub some_digits : (base : ℕ) (digits : List ℕ) (code : ℕ) → number_in base digits ≡ Some code → AreDigits base digits × (digits_number base digits ≡ code)
some_digits base [] code e = absurd cc
some_digits base (digit ∷ digits) code e = tested (are_digits base (digit ∷ digits)) (are_digits-all base (digit ∷ digits)) e
  where
    tested : (test : Bool) → (test ≡ true → AllByRecursion (λ digit. digit_value digit < base) (digit ∷ digits)) → (if test then Some (digits_number base (digit ∷ digits)) else None) ≡ Some code → AreDigits base (digit ∷ digits) × (digits_number base (digit ∷ digits) ≡ code)
    tested true all e = ((all refl, λ no. absurd cc), cc)
    tested false all e = absurd cc

pub character_code : (code there : ℕ) → character_at code ≡ Some there → IsCharacter code × (code ≡ there)
character_code code there e = tested (nat_lt 0 code) (nat_lt code 0xD800) (nat_le 0xE000 code && nat_lt code 0x110000) (ltb-true 0 code) (λ x. x) e
  where
    tested : (positive low high : Bool) → (positive ≡ true → 0 < code) → ((if low then true else high) ≡ true → IsScalar code) → (if positive && (low || high) then Some code else None) ≡ Some there → IsCharacter code × (code ≡ there)
    tested true true high p s e = ((p refl, s refl), cc)
    tested true false true p s e = ((p refl, s refl), cc)
    tested true false false p s e = absurd cc
    tested false low high p s e = absurd cc

pub which : {A : Type 0} (test : Bool) (x y z : A) → (if test then x else y) ≡ z → ((test ≡ true) × (x ≡ z)) ⊎ ((test ≡ false) × (y ≡ z))
which true x y z e = inl (refl, e)
which false x y z e = inr (refl, e)

renamed : (name other : List ℕ) (code there : ℕ) → other ≡ name → there ≡ code → Names other there → Names name code
renamed name other code there e f h = subst (λ c. Names name c) f (subst (λ (n : List ℕ). Names n there) e h)

-- a name with this number behind its `#`
pub number_named : (name : List ℕ) (number code : ℕ) → number_of name ≡ Some number → character_at number ≡ Some code → Names name code
unfolding number_of
number_named [] number code e c = absurd cc
number_named (first ∷ []) number code e c = elim (which (first == 35) _ _ (Some number) e) [ inl h ↦ absurd cc | inr h ↦ absurd cc ]
number_named (first ∷ second ∷ digits) number code e c = elim (which (first == 35) _ _ (Some number) e) [
  | inl h ↦
      let is : 35 ≡ first = sym (eqb-true first 35 h.0) in
      let there = character_code number code c in
      elim (which (second == 120) _ _ (Some number) h.1) [
        | inl g ↦
            let d = some_digits 16 digits number g.1 in
            let here : 120 ≡ second = sym (eqb-true second 120 g.0) in
            renamed (first ∷ second ∷ digits) (35 ∷ 120 ∷ digits) code (digits_number 16 digits) (ap (λ n. n ∷ 120 ∷ digits) is ∙ ap (λ n. first ∷ n ∷ digits) here) (d.1 ∙ there.1) (Names.hexadecimal digits d.0 (subst IsCharacter (sym d.1) there.0))
        | inr g ↦
            let d = some_digits 10 (second ∷ digits) number g.1 in
            renamed (first ∷ second ∷ digits) (35 ∷ second ∷ digits) code (digits_number 10 (second ∷ digits)) (ap (λ n. n ∷ second ∷ digits) is) (d.1 ∙ there.1) (Names.decimal (second ∷ digits) d.0 (subst IsCharacter (sym d.1) there.0))
      ]
  | inr h ↦ absurd cc
]

pub some_same : {A : Type 0} (x y : A) → Some x ≡ Some y → x ≡ y
some_same x y e = cc

same_name : (name other : List ℕ) → bytes_eq name other ≡ true → other ≡ name
same_name name other e = sym ((bytes_eq-Decides name other).0 e)

pub entity_named : (name : List ℕ) (code : ℕ) → entity name ≡ Some code → Names name code
unfolding entity
entity_named name code e = elim (which (bytes_eq name (108 ∷ 116 ∷ [])) _ _ (Some code) e) [
  | inl h ↦ renamed name _ code 60 (same_name name _ h.0) (some_same _ code h.1) Names.less
  | inr e ↦ elim (which (bytes_eq name (103 ∷ 116 ∷ [])) _ _ (Some code) e.1) [
    | inl h ↦ renamed name _ code 62 (same_name name _ h.0) (some_same _ code h.1) Names.greater
    | inr e ↦ elim (which (bytes_eq name (97 ∷ 109 ∷ 112 ∷ [])) _ _ (Some code) e.1) [
      | inl h ↦ renamed name _ code 38 (same_name name _ h.0) (some_same _ code h.1) Names.ampersand
      | inr e ↦ elim (which (bytes_eq name (113 ∷ 117 ∷ 111 ∷ 116 ∷ [])) _ _ (Some code) e.1) [
        | inl h ↦ renamed name _ code 34 (same_name name _ h.0) (some_same _ code h.1) Names.double_quote
        | inr e ↦ elim (which (bytes_eq name (97 ∷ 112 ∷ 111 ∷ 115 ∷ [])) _ _ (Some code) e.1) [
          | inl h ↦ renamed name _ code 39 (same_name name _ h.0) (some_same _ code h.1) Names.single_quote
          | inr h ↦ absurd cc
        ]
      ]
    ]
  ]
]

chosen_named : (line : ℕ) (name : List ℕ) (code : ℕ) (entity_there number : Option ℕ) → entity name ≡ entity_there → number_of name ≡ number → chosen line entity_there number ≡ Ok code → Names name code
chosen_named line name code (Some there) number e f h = entity_named name code (e ∙ cc)
chosen_named line name code None None e f h = absurd cc
chosen_named line name code None (Some n) e f h = number_named name n code f (need_ok _ (character_at n) code h)

pub names : (line : ℕ) (name : List ℕ) (code : ℕ) → character_of line name ≡ Ok code → Names name code
unfolding character_of
names line name code e =
    let tested = bind_ok (refuse _ (is_none name)) (λ _. chosen line (entity name) (number_of name)) code e in
    chosen_named line name code (entity name) (number_of name) refl refl tested.2
