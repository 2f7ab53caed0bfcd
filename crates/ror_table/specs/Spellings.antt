-- How words write amounts: whole numbers, decimals and ratios.
use Rattle.std.specs.Prelude.{◌≡◌, ◌↔◌, ℕ, ◌+◌, ◌<◌, ◌≤◌, ◌^◌, Bool, ◌&&◌, ◌==◌, true, List, [], ◌∷◌, ◌++◌, length, take, drop, position, Option, Some, None, if◌then◌else◌, ℤ, pos}
use Rattle.std.specs.Option.{option_map, option_and_then, option_map_or}
use Rattle.ror_text.specs.Numbers.{is_digits, digits_number, digits_up_to, negative, read_performance}
use Rattle.ror_table.specs.declared.amount.Amount.{Amount}
use Rattle.ror_table.specs.declared.plain.Version.{Version}
use Rattle.ror_table.specs.declared.plain.Version.TheVariants.{One, Two, Three}
use Rattle.ror_table.specs.Amounts.{whole, lowest}

-- the bytes `.` and `/`
abbrev pub point : ℕ
point = 46

abbrev pub slash : ℕ
slash = 47

-- ---- which words write which amounts

-- a sign or none
pub data Sign : Type 0 where
  Unsigned : Sign
  Plus : Sign
  Minus : Sign

abbrev pub sign_bytes : Sign → List ℕ
sign_bytes Unsigned = []
sign_bytes Plus = 43 ∷ []
sign_bytes Minus = 45 ∷ []

-- a number with the sign before it
abbrev pub signed : Sign → ℕ → ℤ
signed Minus n = negative n
signed _ n = pos n

-- one or more digits
abbrev pub AreDigits : List ℕ → Type 0
AreDigits digits = is_digits digits ≡ true

-- a sign or none, and 1 to 18 digits
pub record WritesWhole (word : List ℕ) (n : ℤ) : Type 0 where
  pub sign : Sign
  pub digits : List ℕ
  pub is : word ≡ sign_bytes sign ++ digits
  pub are_digits : AreDigits digits
  pub short : length digits ≤ 18
  pub number : n ≡ signed sign (digits_number digits)

-- a sign or none, digits, `.` and digits, 18 in all at most: the number of all digits, over 10 to the number of those behind
-- the point
pub record WritesDecimal (word : List ℕ) (p : Amount) : Type 0 where
  pub sign : Sign
  pub before : List ℕ
  pub behind : List ℕ
  pub is : word ≡ sign_bytes sign ++ (before ++ point ∷ behind)
  pub before_digits : AreDigits before
  pub behind_digits : AreDigits behind
  pub short : length before + length behind ≤ 18
  pub amount : p ≡ lowest (signed sign (digits_number (before ++ behind))) (pos (10 ^ length behind))

-- a whole number, `/`, and 1 to 18 digits that are not all 0
pub record WritesRatio (word : List ℕ) (p : Amount) : Type 0 where
  pub first : List ℕ
  pub second : List ℕ
  pub is : word ≡ first ++ slash ∷ second
  pub n : ℤ
  pub writes : WritesWhole first n
  pub second_digits : AreDigits second
  pub short : length second ≤ 18
  pub positive : 0 < digits_number second
  pub amount : p ≡ lowest n (pos (digits_number second))

-- a whole number
pub record WritesWholeAmount (word : List ℕ) (p : Amount) : Type 0 where
  pub n : ℤ
  pub writes : WritesWhole word n
  pub amount : p ≡ whole n

-- a whole number or a decimal
pub data WritesReal (word : List ℕ) (p : Amount) : Type 0 where
  by_whole : WritesWholeAmount word p → WritesReal word p
  by_decimal : WritesDecimal word p → WritesReal word p

-- a whole number, a decimal or a ratio
pub data WritesAmount (word : List ℕ) (p : Amount) : Type 0 where
  by_real : WritesReal word p → WritesAmount word p
  by_ratio : WritesRatio word p → WritesAmount word p

-- ---- the amount that a word writes, if it writes one

-- the parts before and behind the first byte of this sort
abbrev pub split_at_byte : ℕ → List ℕ → Option (List ℕ × List ℕ)
split_at_byte byte word =
    option_map (λ k. (take k word, drop (k + 1) word)) (position (λ b. b == byte) word)

abbrev pub whole_amount : List ℕ → Option Amount
whole_amount word = option_map whole (read_performance word)

-- the number of the digits before and behind the point, over 10 to the number of those behind it
abbrev pub decimal_of : (ℕ → ℤ) → List ℕ × List ℕ → Option Amount
decimal_of sign parts =
    if is_digits parts.0 && is_digits parts.1
    then option_map (λ n. lowest (sign n) (pos (10 ^ length parts.1))) (digits_up_to 18 (parts.0 ++ parts.1))
    else None

-- the same, where a sign may stand before the first digits
abbrev pub signed_decimal : List ℕ × List ℕ → Option Amount
signed_decimal ([], behind) = None
signed_decimal (first ∷ before, behind) =
    if first == 43 then decimal_of pos (before, behind)
    else (if first == 45 then decimal_of negative (before, behind)
    else decimal_of pos (first ∷ before, behind))

abbrev pub ratio_of : List ℕ × List ℕ → Option Amount
ratio_of parts = option_and_then (λ n. option_and_then (λ d. if d == 0 then None else Some (lowest n (pos d)))
    (digits_up_to 18 parts.1)) (read_performance parts.0)

-- a whole number or a decimal
unfoldable pub real_of : List ℕ → Option Amount
real_of word = option_map_or signed_decimal (split_at_byte point word) (whole_amount word)

-- a whole number, a decimal or a ratio
unfoldable pub amount_in : List ℕ → Option Amount
amount_in word = option_map_or ratio_of (split_at_byte slash word) (real_of word)

-- a performance of a table by its first line: of `ror-table 1` they are whole
abbrev pub performance_in : Version → List ℕ → Option Amount
performance_in One word = whole_amount word
performance_in Two word = amount_in word
performance_in Three word = amount_in word

-- each word writes one amount at most, which is the one that is read
pub record SpellingsAre : Type 0 where
  pub whole : (word : List ℕ) (p : Amount) → (whole_amount word ≡ Some p) ↔ WritesWholeAmount word p
  pub real : (word : List ℕ) (p : Amount) → (real_of word ≡ Some p) ↔ WritesReal word p
  pub amount : (word : List ℕ) (p : Amount) → (amount_in word ≡ Some p) ↔ WritesAmount word p
