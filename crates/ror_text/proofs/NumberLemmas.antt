-- The numbers of reports as texts, both ways.
use Rattle.std.proofs.Common.{◌≡◌, ℕ, zero, suc, ◌+◌, ◌*◌, ◌/◌, ◌%◌, ◌^◌, ◌<◌, ◌≤◌, true, false, not, ◌||◌, ◌&&◌, eqb, ltb, leb, cond, List, [], ◌∷◌, ◌++◌, length, get_or, Option, Some, None, refl, sym, ap, subst, ◌∙◌, append_assoc, arith, inl, inr, length-append, ℤ, pos, negsuc}
use Rattle.std.specs.Prelude.{◌≢◌, slice_index, unsigned_abs}
use Rattle.std.specs.Char.{digit_value}
use Rattle.std.specs.Int.{IsInRange}
use Rattle.std.specs.Option.{option_map}
use Rattle.std.specs.Fmt.{decimal, signed_decimal}
use Rattle.std.specs.Str.{all_ascii_digits}
use Rattle.std.specs.Str.Parse.{AllDigits, digits_value, digits_value_after}
use Rattle.std.proofs.lemmas.Bool.{cases_Bool, and_parts, and_from, or_cases, or_right, not-true, not_from_false, lt-ltb, ltb-true, leb-true, eqb-true, eqb-false, ne_eqb, cond-true, cond-false}
use Rattle.std.proofs.lemmas.List.{append-nil}
use Rattle.std.proofs.Math.ListN.{get_or-append}
use Rattle.std.proofs.lemmas.Str.{digit_value_digit}
use Rattle.std.proofs.lemmas.Str.Parse.{digit_from_value, digit_at}
use Rattle.std.proofs.lemmas.Fmt.{decimal_is_IsNumeral_wide, decimal_digit, decimal_step_wide, decimal_by_steps_wide}
use Rattle.ror_text.specs.Numbers.{digits_number, is_digits, digits_up_to, plain_below, negative, read_performance, count_of, number_of, small_number_of}
use Rattle.ror_text.specs.SpacedLines.{is_word}
use Rattle.ror_text.proofs.Digits.{own, is_digits_true, up_to_small}

-- ---- decimal texts of up to 64 digits

pub decimal_some : (n : ℕ) → n < 10 ^ 64 → 0 < length (decimal n)
decimal_some n h = (decimal_is_IsNumeral_wide n h).0.0

pub decimal_digits : (n : ℕ) → n < 10 ^ 64 → all_ascii_digits (decimal n) ≡ true
decimal_digits n h = own.from (decimal n) (decimal_is_IsNumeral_wide n h).0.1

pub digits_number-decimal : (n : ℕ) → n < 10 ^ 64 → digits_number (decimal n) ≡ n
digits_number-decimal n h = own.same (decimal n) (decimal_is_IsNumeral_wide n h).0.1 ∙ (decimal_is_IsNumeral_wide n h).1

pub first_decimal : (n : ℕ) → 0 < n → n < 10 ^ 64 → 48 < get_or (decimal n) 0 0
first_decimal n some small = (decimal_by_steps_wide (λ m ds. (0 < length ds) × (0 < m → 48 < get_or ds 0 0)) (λ m l. (omega arith, λ a. omega arith))
    (λ m ds l h. (omega (arith, length-append ds ((48 + m % 10) ∷ [])), λ a. omega (arith, get_or-append ds ((48 + m % 10) ∷ []) 0 0 h.0, h.1 (omega arith)))) n small).1 some

pub decimal-ne : (n c : ℕ) (ds : List ℕ) → n < 10 ^ 64 → ¬ (IsInRange 48 57 c) → decimal n ≢ c ∷ ds
decimal-ne n c ds h out e = out (digit_from_value c (subst (AllDigits 10) e (decimal_is_IsNumeral_wide n h).0.1).0)

le_value_after : (n : ℕ) (ds : List ℕ) → n ≤ digits_value_after 10 n ds
le_value_after n [] = omega arith
le_value_after n (c ∷ cs) = omega (arith, le_value_after (n * 10 + digit_value c) cs)

decimal_value_after : (n : ℕ) (ds : List ℕ) → 0 < n → AllDigits 10 ds → digits_value_after 10 n ds < 10 ^ 64 → decimal (digits_value_after 10 n ds) ≡ decimal n ++ ds
decimal_value_after n [] some d small = sym (append-nil (decimal n))
decimal_value_after n (c ∷ cs) some d small =
    let m : ℕ = n * 10 + digit_value c in
    let k = digit_value_digit c (digit_from_value c d.0) in
    let front : m / 10 ≡ n = omega (arith, d.0) in
    let end : 48 + m % 10 ≡ c = omega (arith, d.0) in
    decimal_value_after m cs (omega arith) d.1 small
    ∙ ap (λ x. x ++ cs) (decimal_step_wide m (omega arith) (omega (arith, le_value_after m cs)) ∙ (λ i. decimal (front i) ++ (end i ∷ [])))
    ∙ append_assoc (decimal n) (c ∷ []) cs

decimal_value_digits : (ds : List ℕ) → AllDigits 10 ds → 0 < length ds → (get_or ds 0 0 ≡ 48 → length ds ≡ 1) → digits_value 10 ds < 10 ^ 64 → decimal (digits_value 10 ds) ≡ ds
decimal_value_digits [] d some lead small = absurd (omega arith)
decimal_value_digits (c ∷ []) d some lead small =
    let k = digit_value_digit c (digit_from_value c d.0) in
    decimal_digit (0 * 10 + digit_value c) (omega (arith, d.0)) ∙ ap (λ x. x ∷ []) (omega arith)
decimal_value_digits (c ∷ e ∷ cs) d some lead small =
    let k = digit_value_digit c (digit_from_value c d.0) in
    let no_zero : c ≡ 48 → ⊥ = λ z. omega (arith, lead z) in
    let is : 48 + (0 * 10 + digit_value c) ≡ c = omega arith in
    decimal_value_after (0 * 10 + digit_value c) (e ∷ cs) (omega arith) d.1 small
    ∙ ap (λ x. x ++ (e ∷ cs)) (decimal_digit (0 * 10 + digit_value c) (omega (arith, d.0)) ∙ ap (λ x. x ∷ []) is)

-- digits without a leading zero, or just `0`, are the decimal text of their number
pub decimal-digits_number : (ds : List ℕ) → all_ascii_digits ds ≡ true → 0 < length ds → (get_or ds 0 0 ≡ 48 → length ds ≡ 1) → digits_number ds < 10 ^ 64 → decimal (digits_number ds) ≡ ds
decimal-digits_number ds p some lead small = let d = own.to ds p in ap decimal (own.same ds d) ∙ decimal_value_digits ds d some lead (omega (arith, own.same ds d))

-- ---- digits without a leading zero

decimal_lead : (n : ℕ) → n < 10 ^ 64 → (eqb (length (decimal n)) 1 || not (eqb (slice_index (decimal n) 0) 48)) ≡ true
decimal_lead zero h = rw (decimal_digit 0 h_digit) refl
  where
    h_digit : 0 < 10
    h_digit = omega arith
decimal_lead (suc n) h =
    let no_zero : eqb (slice_index (decimal (suc n)) 0) 48 ≡ false = ne_eqb _ _ (λ (e : slice_index (decimal (suc n)) 0 ≡ 48). omega (arith, first_decimal (suc n) (omega arith) h)) in
    or_right _ _ (not_from_false _ no_zero)

pub plain_below-decimal : (limit n : ℕ) → n < limit → n < 10 ^ 64 → plain_below limit (decimal n) ≡ Some n
plain_below-decimal limit n low h =
    let digits = is_digits_true (decimal n) (decimal_some n h) (decimal_digits n h) in
    let below : ltb (digits_number (decimal n)) limit ≡ true = lt-ltb _ _ (omega (arith, digits_number-decimal n h)) in
    cond-true _ _ _ (and_from _ _ (and_from _ _ digits (decimal_lead n h)) below) ∙ ap (λ m. Some m) (digits_number-decimal n h)

plain_parts : (limit : ℕ) (word : List ℕ) → limit ≤ 10 ^ 64 → (is_digits word && (eqb (length word) 1 || not (eqb (slice_index word 0) 48)) && ltb (digits_number word) limit) ≡ true → (word ≡ decimal (digits_number word)) × (digits_number word < limit)
plain_parts limit word most h =
    let all = and_parts (is_digits word && (eqb (length word) 1 || not (eqb (slice_index word 0) 48))) (ltb (digits_number word) limit) h in
    let front = and_parts (is_digits word) (eqb (length word) 1 || not (eqb (slice_index word 0) 48)) all.0 in
    let digits = and_parts (ltb 0 (length word)) (all_ascii_digits word) front.0 in
    let below : digits_number word < limit = ltb-true _ _ all.1 in
    let lead : get_or word 0 0 ≡ 48 → length word ≡ 1 = λ z. elim (or_cases (eqb (length word) 1) (not (eqb (slice_index word 0) 48)) front.1) [
      | inl one ↦ eqb-true _ _ one
      | inr other ↦ absurd (eqb-false _ _ (not-true _ other) z)
    ] in
    (sym (decimal-digits_number word digits.1 (ltb-true _ _ digits.0) lead (omega arith)), below)

pub plain_below-sound : (limit : ℕ) (word : List ℕ) (n : ℕ) → limit ≤ 10 ^ 64 → plain_below limit word ≡ Some n → (word ≡ decimal n) × (n < limit)
plain_below-sound limit word n most e =
    elim (cases_Bool (is_digits word && (eqb (length word) 1 || not (eqb (slice_index word 0) 48)) && ltb (digits_number word) limit)) [
      | inl holds ↦
          let same : Some (digits_number word) ≡ Some n = sym (cond-true _ _ _ holds) ∙ e in
          let number : digits_number word ≡ n = cc in
          rw (← number) (plain_parts limit word most holds)
      | inr fails ↦ absurd (let none = rw fails at e in cc)
    ]

-- ---- the numbers of reports

pub small_number_of-decimal : (n : ℕ) → n < 2 ^ 32 → small_number_of (decimal n) ≡ Some n
unfolding small_number_of
small_number_of-decimal n h = plain_below-decimal (2 ^ 32) n h (omega arith)

pub small_number_of-sound : (word : List ℕ) (n : ℕ) → small_number_of word ≡ Some n → (word ≡ decimal n) × (n < 2 ^ 32)
unfolding small_number_of
small_number_of-sound word n e = plain_below-sound (2 ^ 32) word n (omega arith) e

plain_number : (word : List ℕ) → 0 < length word → slice_index word 0 ≢ 45 → number_of word ≡ option_map pos (plain_below (2 ^ 127) word)
unfolding number_of
plain_number [] some h = absurd (omega arith)
plain_number (c ∷ cs) some h = rw (ne_eqb c 45 h) refl

first_digit : (n : ℕ) → n < 10 ^ 64 → IsInRange 48 57 (get_or (decimal n) 0 0)
first_digit n h = digit_at (decimal n) 0 (decimal_is_IsNumeral_wide n h).0.1 (decimal_some n h)

pub number_of-signed_decimal : (z : ℤ) → unsigned_abs z < 2 ^ 127 → number_of (signed_decimal z) ≡ Some z
unfolding number_of
number_of-signed_decimal (pos n) h =
    let digit = first_digit n (omega arith) in
    plain_number (decimal n) (decimal_some n (omega arith)) (λ e. omega arith) ∙ ap (option_map pos) (plain_below-decimal (2 ^ 127) n (omega arith) (omega arith))
number_of-signed_decimal (negsuc n) h =
    let lead : eqb (slice_index (decimal (suc n)) 0) 48 ≡ false = ne_eqb _ _ (λ (e : slice_index (decimal (suc n)) 0 ≡ 48). omega (arith, first_decimal (suc n) (omega arith) (omega arith))) in
    cond-false _ _ _ lead ∙ (ap (option_map negative) (plain_below-decimal (2 ^ 127) (suc n) (omega arith) (omega arith)))

pub mapped : {A B : Type 0} (f : A → B) (o : Option A) (y : B) → option_map f o ≡ Some y → (x : A) × (o ≡ Some x) × (f x ≡ y)
mapped f None y e = absurd cc
mapped f (Some x) y e = (x, refl, cc)

below_zero : (digits : List ℕ) (n : ℕ) (z : ℤ) → eqb (slice_index digits 0) 48 ≡ false → digits ≡ decimal n → n < 2 ^ 127 → negative n ≡ z → (45 ∷ digits ≡ signed_decimal z) × (unsigned_abs z < 2 ^ 127)
below_zero digits zero z lead e h is = absurd (eqb-false _ _ lead (ap (λ (l : List ℕ). slice_index l 0) (e ∙ decimal_digit 0 (omega arith))))
below_zero digits (suc n) z lead e h is = subst (λ y. (45 ∷ digits ≡ signed_decimal y) × (unsigned_abs y < 2 ^ 127)) is (ap (λ (l : List ℕ). 45 ∷ l) e, h)

after_minus : (digits : List ℕ) (z : ℤ) → cond (eqb (slice_index digits 0) 48) None (option_map negative (plain_below (2 ^ 127) digits)) ≡ Some z → (45 ∷ digits ≡ signed_decimal z) × (unsigned_abs z < 2 ^ 127)
after_minus digits z e =
    elim (cases_Bool (eqb (slice_index digits 0) 48)) [
      | inl lead ↦ absurd (let none = sym (cond-true _ _ _ lead) ∙ e in cc)
      | inr other ↦
          let m = mapped negative (plain_below (2 ^ 127) digits) z (sym (cond-false _ _ _ other) ∙ e) in
          let sound = plain_below-sound (2 ^ 127) digits m.0 (omega arith) m.1 in
          below_zero digits m.0 z other sound.0 sound.1 m.2
    ]

pub number_of-sound : (word : List ℕ) (z : ℤ) → number_of word ≡ Some z → (word ≡ signed_decimal z) × (unsigned_abs z < 2 ^ 127)
unfolding number_of
number_of-sound [] z e = absurd cc
number_of-sound (c ∷ cs) z e =
    elim (cases_Bool (eqb c 45)) [
      | inl minus ↦ rw (eqb-true c 45 minus) (after_minus cs z (sym (cond-true _ _ _ minus) ∙ e))
      | inr other ↦
          let m = mapped pos (plain_below (2 ^ 127) (c ∷ cs)) z (sym (cond-false _ _ _ other) ∙ e) in
          subst (λ y. (c ∷ cs ≡ signed_decimal y) × (unsigned_abs y < 2 ^ 127)) m.2 (plain_below-sound (2 ^ 127) (c ∷ cs) m.0 (omega arith) m.1)
    ]

-- ---- performances and counts

digits_up_to-small : (most : ℕ) (word : List ℕ) (n : ℕ) → digits_up_to most word ≡ Some n → n < 10 ^ most
digits_up_to-small most word n e =
    elim (cases_Bool (is_digits word && leb (length word) most)) [
      | inl holds ↦
          let both = and_parts (is_digits word) (leb (length word) most) holds in
          let same : Some (digits_number word) ≡ Some n = sym (cond-true _ _ _ holds) ∙ e in
          let number : digits_number word ≡ n = cc in
          rw (← number) (up_to_small most word (leb-true _ _ both.1) both.0)
      | inr fails ↦ absurd (let none = sym (cond-false _ _ _ fails) ∙ e in cc)
    ]

pub count_of-small : (word : List ℕ) (n : ℕ) → count_of word ≡ Some n → n < 10 ^ 9
unfolding count_of
count_of-small word n e = digits_up_to-small 9 word n e

negative_abs : (n : ℕ) → unsigned_abs (negative n) ≡ n
negative_abs zero = refl
negative_abs (suc n) = refl

positive_small : (word : List ℕ) (z : ℤ) → option_map pos (digits_up_to 18 word) ≡ Some z → unsigned_abs z < 10 ^ 18
positive_small word z e = let m = mapped pos (digits_up_to 18 word) z e in subst (λ y. unsigned_abs y < 10 ^ 18) m.2 (digits_up_to-small 18 word m.0 m.1)

negative_small : (word : List ℕ) (z : ℤ) → option_map negative (digits_up_to 18 word) ≡ Some z → unsigned_abs z < 10 ^ 18
negative_small word z e = let m = mapped negative (digits_up_to 18 word) z e in subst (λ y. unsigned_abs y < 10 ^ 18) m.2 (rw (negative_abs m.0) (digits_up_to-small 18 word m.0 m.1))

pub read_performance-small : (word : List ℕ) (z : ℤ) → read_performance word ≡ Some z → unsigned_abs z < 10 ^ 18
unfolding read_performance
read_performance-small [] z e = absurd cc
read_performance-small (c ∷ cs) z e =
    elim (cases_Bool (eqb c 43)) [
      | inl plus ↦ positive_small cs z (sym (cond-true _ _ _ plus) ∙ e)
      | inr other ↦
          let f = sym (cond-false _ _ _ other) ∙ e in
          elim (cases_Bool (eqb c 45)) [
            | inl minus ↦ negative_small cs z (sym (cond-true _ _ _ minus) ∙ f)
            | inr none ↦ positive_small (c ∷ cs) z (sym (cond-false _ _ _ none) ∙ f)
          ]
    ]

-- ---- the texts as words

digits_are_word : (ds : List ℕ) → AllDigits 10 ds → is_word ds ≡ true
digits_are_word [] d = refl
digits_are_word (c ∷ cs) d =
    let digit = digit_from_value c d.0 in
    rw (ne_eqb c 32 (λ e. omega arith), ne_eqb c 10 (λ e. omega arith)) (digits_are_word cs d.1)

pub is_word-decimal : (n : ℕ) → n < 10 ^ 64 → is_word (decimal n) ≡ true
is_word-decimal n h = digits_are_word (decimal n) (decimal_is_IsNumeral_wide n h).0.1

pub is_word-signed_decimal : (z : ℤ) → unsigned_abs z < 10 ^ 64 → is_word (signed_decimal z) ≡ true
is_word-signed_decimal (pos n) h = is_word-decimal n h
is_word-signed_decimal (negsuc n) h = is_word-decimal (suc n) h

pub signed_decimal_some : (z : ℤ) → unsigned_abs z < 10 ^ 64 → 0 < length (signed_decimal z)
signed_decimal_some (pos n) h = decimal_some n h
signed_decimal_some (negsuc n) h = omega arith

-- neither is the bar
pub decimal-ne_bar : (n : ℕ) (ds : List ℕ) → n < 10 ^ 64 → decimal n ≢ 124 ∷ ds
decimal-ne_bar n ds h = decimal-ne n 124 ds h (λ digit. omega arith)

minus-ne_bar : (digits ds : List ℕ) → 45 ∷ digits ≢ 124 ∷ ds
minus-ne_bar digits ds e = cc

pub signed_decimal-ne_bar : (z : ℤ) (ds : List ℕ) → unsigned_abs z < 10 ^ 64 → signed_decimal z ≢ 124 ∷ ds
signed_decimal-ne_bar (pos n) ds h = decimal-ne_bar n ds h
signed_decimal-ne_bar (negsuc n) ds h = minus-ne_bar (decimal (suc n)) ds
