-- Digits and their number, in std's words for what `parse` reads.
use Rattle.std.proofs.Common.{◌+◌, ◌-◌, ◌*◌, ◌++◌, take, get_or, sym, ap, ◌∙◌, length-append, ◌≡◌, ℕ, ◌^◌, ◌<◌, ◌≤◌, true, List, [], ◌∷◌, length, Option, None, Result, Ok, Err, refl, subst, rules, arith, inl, inr}
use Rattle.std.specs.Prelude.{MatchOption, OkIff}
use Rattle.std.specs.Char.{is_ascii_digit}
use Rattle.std.specs.List.{list_all}
use Rattle.std.specs.Result.{result_ok}
use Rattle.std.specs.Str.{all_ascii_digits, IsUtf8}
use Rattle.std.specs.Str.Parse.{ParsesUnsigned}
use Rattle.std.proofs.lemmas.Str.{IsUtf8-from_ascii}
use Rattle.std.proofs.lemmas.Str.Parse.{IsNumeralModel, numerals_by_weight, tells_all_ascii_digits, parse_digits, digits_value_short}
use Rattle.std.proofs.lemmas.Bool.{and_from, and_parts, lt-ltb, cases_lt, cases_Bool}
use Rattle.std.proofs.lemmas.Fmt.{IsAscii-from_digits}
use Rattle.std.proofs.Math.Nat.{pow-suc}
use Rattle.std.proofs.lemmas.List.{take_more, length-take-le}
use Rattle.std.proofs.lemmas.List.Folds.{list_all-append}
use Rattle.ror_text.specs.Numbers.{digits_number, is_digits, digits_up_to}

pub own : IsNumeralModel (λ ds. all_ascii_digits ds ≡ true) digits_number
own = numerals_by_weight _ tells_all_ascii_digits digits_number (search rules)

pub all_ascii_digits_is : (ds : List ℕ) → all_ascii_digits ds ≡ list_all is_ascii_digit ds
all_ascii_digits_is [] = refl
all_ascii_digits_is (d ∷ ds) = rw (all_ascii_digits_is ds) refl

-- digits are a text
pub digits_are_text : (bs : List ℕ) → all_ascii_digits bs ≡ true → IsUtf8 bs
digits_are_text bs d = IsUtf8-from_ascii bs (IsAscii-from_digits bs (own.to bs d))

pub is_digits_true : (bs : List ℕ) → 0 < length bs → all_ascii_digits bs ≡ true → is_digits bs ≡ true
is_digits_true bs some d = and_from _ _ (lt-ltb _ _ some) d

parsed_by : {E : Type 0} (bs : List ℕ) (r : Result ℕ E) → is_digits bs ≡ true → OkIff r ((0 < length bs) × (digits_number bs < 2 ^ 128)) (digits_number bs) → 0 < length bs
    → MatchOption (result_ok r) (is_digits bs ≡ true → 2 ^ 128 ≤ digits_number bs) (λ n. (is_digits bs ≡ true) × (n ≡ digits_number bs))
parsed_by bs (Ok n) d h some = (d, h.1)
parsed_by bs (Err e) d h some = λ _. elim (cases_lt (digits_number bs) (2 ^ 128)) [
  | inl small ↦ absurd (h (some, small))
  | inr large ↦ large
]

-- what `parse` answers of digits
pub parsed : {E : Type 0} (bs text : List ℕ) (r : Result ℕ E) (o : Option ℕ) → text ≡ bs → 0 < length bs → all_ascii_digits bs ≡ true → ParsesUnsigned 128 10 text r → o ≡ result_ok r
    → MatchOption o (is_digits bs ≡ true → 2 ^ 128 ≤ digits_number bs) (λ n. (is_digits bs ≡ true) × (n ≡ digits_number bs))
parsed bs text r o same some d h is = rw is (parsed_by bs r (is_digits_true bs some d) (parse_digits own 128 bs r (subst (λ t. ParsesUnsigned 128 10 t r) same h) d) some)

pub up_to_small : (most : ℕ) (word : List ℕ) → length word ≤ most → is_digits word ≡ true → digits_number word < 10 ^ most
up_to_small most word short d = digits_value_short own word most (and_parts _ _ d).1 short

pub none_up_to : (most : ℕ) (word : List ℕ) → most ≤ 18 → length word ≤ most → (is_digits word ≡ true → 2 ^ 128 ≤ digits_number word) → digits_up_to most word ≡ None
none_up_to most word m short h =
    elim (cases_Bool (is_digits word)) [
      | inl d ↦ let small : digits_number word < 10 ^ 18 = up_to_small 18 word (omega arith) d in absurd (omega (arith, h d))
      | inr other ↦ rw other refl
    ]

-- ---- digit by digit

all_digits_more : (ds : List ℕ) (d : ℕ) → all_ascii_digits ds ≡ true → is_ascii_digit d ≡ true → all_ascii_digits (ds ++ d ∷ []) ≡ true
all_digits_more ds d before this =
    all_ascii_digits_is (ds ++ d ∷ []) ∙ list_all-append is_ascii_digit ds (d ∷ []) ∙ and_from _ _ (sym (all_ascii_digits_is ds) ∙ before) (and_from _ _ this refl)

digits_number-more : (ds : List ℕ) (d : ℕ) → digits_number (ds ++ d ∷ []) ≡ digits_number ds * 10 + (d - 48)
digits_number-more [] d = omega arith
digits_number-more (x ∷ ds) d =
    let power : 10 ^ length (ds ++ d ∷ []) ≡ 10 ^ length ds * 10 = ap (λ n. 10 ^ n) (length-append ds (d ∷ []) ∙ omega arith) ∙ pow-suc 10 (length ds) in
    omega (arith, digits_number-more ds d, ap (λ p. (x - 48) * p) power)

-- what one digit more makes of the first ones
pub one_digit_more : (word : List ℕ) (i n : ℕ) → i < length word → is_ascii_digit (get_or word i 0) ≡ true → all_ascii_digits (take i word) ≡ true → n ≡ digits_number (take i word)
    → (all_ascii_digits (take (i + 1) word) ≡ true) × (n * 10 + (get_or word i 0 - 48) ≡ digits_number (take (i + 1) word))
one_digit_more word i n within this before is =
    rw (take_more word i 0 within) (all_digits_more (take i word) (get_or word i 0) before this, omega (arith, is, digits_number-more (take i word) (get_or word i 0)))

-- some of fewer digits than 20 have a number below 10 ^ 18
pub first_digits_small : (word : List ℕ) (i n : ℕ) → i < length word → length word ≤ 19 → all_ascii_digits (take i word) ≡ true → n ≡ digits_number (take i word) → n < 10 ^ 18
first_digits_small word i n within short before is =
    let few : length (take i word) ≤ 18 = omega (arith, length-take-le i word (omega arith)) in
    rw is (digits_value_short own (take i word) 18 before few)
