-- The numbers that words write in decimal digits.
use Rattle.std.specs.Prelude.{ℕ, ◌+◌, ◌-◌, ◌*◌, ◌^◌, Bool, not, ◌&&◌, ◌||◌, List, [], ◌∷◌, length, slice_index, Option, Some, None, ℤ, pos, neg_ℤ, nat_lt, nat_le, ◌==◌, if◌then◌else◌}
use Rattle.std.specs.Option.{option_map}
use Rattle.std.specs.Str.{all_ascii_digits}
use Rattle.ror_text.specs.declared.numbers.TheConstants.{NUMBER_LIMIT}

-- one or more decimal digits
abbrev pub is_digits : List ℕ → Bool
is_digits word = nat_lt 0 (length word) && all_ascii_digits word

-- each digit has the weight of its place
abbrev pub digits_number : List ℕ → ℕ
digits_number [] = 0
digits_number (digit ∷ digits) = (digit - 48) * 10 ^ length digits + digits_number digits

-- the number of 1 to most digits, leading zeros allowed
abbrev pub digits_up_to : ℕ → List ℕ → Option ℕ
digits_up_to most word = if is_digits word && nat_le (length word) most
    then Some (digits_number word) else None

-- the number of digits without a leading zero, or of the digit 0 alone, if it is below the limit
abbrev pub plain_below : ℕ → List ℕ → Option ℕ
plain_below limit word =
    if is_digits word && (length word == 1 || not (slice_index word 0 == 48))
    && nat_lt (digits_number word) limit then Some (digits_number word) else None

abbrev pub negative : ℕ → ℤ
negative n = neg_ℤ (pos n)

-- a performance: an optional `+` or `-`, and 1 to 18 digits
unfoldable pub read_performance : List ℕ → Option ℤ
read_performance [] = None
read_performance (sign ∷ digits) =
    if sign == 43 then option_map pos (digits_up_to 18 digits)
    else (if sign == 45 then option_map negative (digits_up_to 18 digits)
    else option_map pos (digits_up_to 18 (sign ∷ digits)))

-- a count: 1 to 9 digits
unfoldable pub count_of : List ℕ → Option ℕ
count_of word = digits_up_to 9 word

-- a number of a report: digits without a leading zero, with `-` before them where it is below 0,
-- of absolute value below NUMBER_LIMIT
unfoldable pub number_of : List ℕ → Option ℤ
number_of [] = None
number_of (sign ∷ digits) =
    if sign == 45
    then (if slice_index digits 0 == 48 then None
    else option_map negative (plain_below NUMBER_LIMIT digits))
    else option_map pos (plain_below NUMBER_LIMIT (sign ∷ digits))

-- a count, a place or a system of a report: digits without a leading zero, at most 4,294,967,295
unfoldable pub small_number_of : List ℕ → Option ℕ
small_number_of word = plain_below (2 ^ 32) word
