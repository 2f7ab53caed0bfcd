-- What the cells of numbers are: words of a line that write amounts.
use Rattle.std.proofs.Common.{◌≡◌, ℕ, ◌+◌, ◌<◌, ◌≤◌, Bool, true, false, eqb, ltb, inl, inr, List, [], ◌∷◌, ◌++◌, length, refl, ◌∙◌, arith, length-append}
use Rattle.std.specs.Prelude.{◌&&◌}
use Rattle.std.specs.Char.{is_ascii_digit}
use Rattle.std.specs.List.{list_all, list_any}
use Rattle.std.specs.Str.{all_ascii_digits}
use Rattle.std.proofs.lemmas.Bool.{and_parts, and_from, or_from, ltb-true, lt-ltb, ne_eqb, cases_Bool}
use Rattle.std.proofs.lemmas.Bool.Decides.{nat_tests}
use Rattle.std.proofs.lemmas.List.Folds.{list_all-append}
use Rattle.ror_text.specs.Lines.{is_control}
use Rattle.ror_text.specs.Numbers.{is_digits}
use Rattle.ror_table.specs.declared.amount.Amount.{Amount}
use Rattle.ror_table.specs.Spellings.{Sign, Unsigned, Plus, Minus, sign_bytes, WritesReal, by_whole, by_decimal}
use Rattle.ror_show_spreadsheet.proofs.Cutting.{IsSeen, utf8_bytes}

-- a byte of a number: a sign, a point or a digit
abbrev pub is_number_byte : ℕ → Bool
is_number_byte b = ltb 0x21 b && ltb b 0x7F

number_bytes : (word : List ℕ) → list_all is_number_byte word ≡ true → (list_any is_control word ≡ false) × (list_all (λ b. ltb b 128) word ≡ true)
number_bytes [] h = (refl, refl)
number_bytes (b ∷ bs) h =
    let both = and_parts (is_number_byte b) (list_all is_number_byte bs) h in
    let ends = and_parts (ltb 0x21 b) (ltb b 0x7F) both.0 in
    let low = ltb-true _ _ ends.0 in
    let high = ltb-true _ _ ends.1 in
    let rest = number_bytes bs both.1 in
    let seen : is_control b ≡ false = or_from (ltb b 0x21) (eqb b 0x7F) (not_below b low) (ne_eqb b 0x7F (λ (e : b ≡ 0x7F). omega arith)) in
    (or_from (is_control b) (list_any is_control bs) seen rest.0, and_from (ltb b 128) _ (lt-ltb b 128 (omega arith)) rest.1)
  where
    not_below : (b : ℕ) → 0x21 < b → ltb b 0x21 ≡ false
    not_below b h = elim (cases_Bool (ltb b 0x21)) [
      | inl less ↦ let l = ltb-true b 0x21 less in absurd (omega arith)
      | inr more ↦ more
    ]

pub seen_number : (word : List ℕ) → 0 < length word → list_all is_number_byte word ≡ true → IsSeen word
seen_number word some h =
    let bytes = number_bytes word h in
    record { some = some; visible = bytes.0; utf8 = utf8_bytes word bytes.1 }

-- ---- digits

digit_apart : (c : ℕ) → is_ascii_digit c ≡ true → (47 < c) × (c < 58)
digit_apart c h = grind (arith, nat_tests)

digit_byte : (c : ℕ) → is_ascii_digit c ≡ true → is_number_byte c ≡ true
digit_byte c h =
    let ends = digit_apart c h in
    and_from _ _ (lt-ltb 0x21 c (omega arith)) (lt-ltb c 0x7F (omega arith))

digits_bytes : (ds : List ℕ) → all_ascii_digits ds ≡ true → list_all is_number_byte ds ≡ true
digits_bytes [] h = refl
digits_bytes (d ∷ ds) h = let both = and_parts (is_ascii_digit d) (all_ascii_digits ds) h in and_from _ _ (digit_byte d both.0) (digits_bytes ds both.1)

of_digits : (ds : List ℕ) → is_digits ds ≡ true → (0 < length ds) × (list_all is_number_byte ds ≡ true)
of_digits ds h = let both = and_parts (ltb 0 (length ds)) (all_ascii_digits ds) h in (ltb-true _ _ both.0, digits_bytes ds both.1)

sign_is : (sign : Sign) → (list_all is_number_byte (sign_bytes sign) ≡ true) × (length (sign_bytes sign) ≤ 1)
sign_is Unsigned = (refl, omega arith)
sign_is Plus = (refl, omega arith)
sign_is Minus = (refl, omega arith)

joined_bytes : (a b : List ℕ) → list_all is_number_byte a ≡ true → list_all is_number_byte b ≡ true → list_all is_number_byte (a ++ b) ≡ true
joined_bytes a b x y = list_all-append is_number_byte a b ∙ and_from _ _ x y

-- the words of whole numbers and decimals are seen, and have at most 20 bytes
pub record IsShortNumber (word : List ℕ) : Type 0 where
  pub seen : IsSeen word
  pub short : length word ≤ 20

pub real_word : (word : List ℕ) (p : Amount) → WritesReal word p → IsShortNumber word
real_word word p (by_whole whole) =
    let w = whole.writes in
    let sign = sign_is w.sign in
    let digits = of_digits w.digits w.are_digits in
    let size = length-append (sign_bytes w.sign) w.digits in
    rw w.is (record {
      seen = seen_number (sign_bytes w.sign ++ w.digits) (omega (arith, digits.0)) (joined_bytes (sign_bytes w.sign) w.digits sign.0 digits.1);
      short = omega (arith, sign.1, w.short);
    })
real_word word p (by_decimal w) =
    let sign = sign_is w.sign in
    let before = of_digits w.before w.before_digits in
    let behind = of_digits w.behind w.behind_digits in
    let number = w.before ++ 46 ∷ w.behind in
    let size = length-append (sign_bytes w.sign) number in
    let inner = length-append w.before (46 ∷ w.behind) in
    rw w.is (record {
      seen = seen_number (sign_bytes w.sign ++ number) (omega (arith, before.0)) (joined_bytes (sign_bytes w.sign) number sign.0 (joined_bytes w.before (46 ∷ w.behind) before.1 behind.1));
      short = omega (arith, sign.1, w.short);
    })
