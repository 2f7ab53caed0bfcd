-- The character for which a reference stands.
use Rattle.std.specs.Prelude.{ℕ, ◌+◌, ◌-◌, ◌*◌, ◌^◌, Bool, not, ◌&&◌, ◌||◌, List, [], ◌∷◌, length, drop, slice_index, Option, Some, None, Result, Ok, Err, nat_lt, nat_le, ◌==◌, if◌then◌else◌}
use Rattle.std.specs.List.{list_all}
use Rattle.std.specs.Str.{bytes_eq}
use Rattle.ror_text.specs.Reading.{◌>>=◌, refuse, need}
use Rattle.ror_elements.specs.declared.element.ElementFault.{ElementFault}
use Rattle.ror_elements.specs.declared.element.ElementKind.TheVariants as kinds
use Rattle.ror_elements.specs.Faults.{fault}
use Rattle.ror_elements.specs.Open.{is_none}

-- `lt`, `gt`, `amp`, `quot` and `apos`
unfoldable pub entity : List ℕ → Option ℕ
entity name =
    if bytes_eq name (108 ∷ 116 ∷ []) then Some 60
    else (if bytes_eq name (103 ∷ 116 ∷ []) then Some 62
    else (if bytes_eq name (97 ∷ 109 ∷ 112 ∷ []) then Some 38
    else (if bytes_eq name (113 ∷ 117 ∷ 111 ∷ 116 ∷ []) then Some 34
    else (if bytes_eq name (97 ∷ 112 ∷ 111 ∷ 115 ∷ []) then Some 39
    else None))))

-- 0 to 15 for the digits of both bases, in letters of either case, and 16 for any other byte
abbrev pub digit_value : ℕ → ℕ
digit_value byte =
    if nat_le 48 byte && nat_le byte 57 then byte - 48
    else (if nat_le 97 byte && nat_le byte 102 then byte - 87
    else (if nat_le 65 byte && nat_le byte 70 then byte - 55
    else 16))

abbrev pub are_digits : ℕ → List ℕ → Bool
are_digits base digits = list_all (λ byte. nat_lt (digit_value byte) base) digits

-- each digit has the weight of its place
abbrev pub digits_number : ℕ → List ℕ → ℕ
digits_number base [] = 0
digits_number base (digit ∷ digits) = digit_value digit * base ^ length digits + digits_number base digits

-- the number of one or more digits
abbrev pub number_in : ℕ → List ℕ → Option ℕ
number_in base digits =
    if not (is_none digits) && are_digits base digits then Some (digits_number base digits) else None

-- the number behind `#x`, to the base 16, or behind `#`, to the base 10
unfoldable pub number_of : List ℕ → Option ℕ
number_of name =
    if slice_index name 0 == 35
    then (if slice_index name 1 == 120 then number_in 16 (drop 2 name) else number_in 10 (drop 1 name))
    else None

-- the character with this code, unless that is 0 or no character's
abbrev pub character_at : ℕ → Option ℕ
character_at code =
    if nat_lt 0 code && (nat_lt code 0xD800 || (nat_le 0xE000 code && nat_lt code 0x110000))
    then Some code else None

-- the character that is there, else the fault
abbrev pub chosen : ℕ → Option ℕ → Option ℕ → Result ℕ ElementFault
chosen line (Some character) number = Ok character
chosen line None None = Err (fault kinds.Entity line)
chosen line None (Some number) = need (fault kinds.BadMarkup line) (character_at number)

-- the character for which the reference with this name stands, which begins on this line
unfoldable pub character_of : ℕ → List ℕ → Result ℕ ElementFault
character_of line name = do
  _ ← refuse (fault kinds.BadMarkup line) (is_none name)
  chosen line (entity name) (number_of name)
