-- The kinds of bytes, and texts without what surrounds them.
use Rattle.std.specs.Prelude.{ℕ, ◌+◌, Bool, not, ◌&&◌, ◌||◌, List, [], ◌∷◌, drop, position, Option, Some, None, nat_lt, ◌==◌, if◌then◌else◌}

-- a space, a tab, a line feed or a carriage return
abbrev pub is_white : ℕ → Bool
is_white byte = byte == 32 || byte == 9 || byte == 10 || byte == 13

-- a byte below 0x20 that is no white space
abbrev pub is_control : ℕ → Bool
is_control byte = nat_lt byte 32 && not (is_white byte)

-- one of `<`, `>`, `/`, `=`, `&`, `"` and `'`
abbrev pub is_mark : ℕ → Bool
is_mark byte =
    byte == 60 || byte == 62 || byte == 47 || byte == 61 || byte == 38 || byte == 34 || byte == 39

-- what may stand in a name
abbrev pub is_name_byte : ℕ → Bool
is_name_byte byte = not (is_white byte) && not (is_mark byte)

abbrev pub is_colon : ℕ → Bool
is_colon byte = byte == 58

-- a name without what stands up to this place, if there is one
abbrev pub behind : List ℕ → Option ℕ → List ℕ
behind name None = name
behind name (Some place) = drop (place + 1) name

-- what follows the first `:`, or all of the name
unfoldable pub local_name : List ℕ → List ℕ
local_name name = behind name (position is_colon name)

abbrev pub without_start : List ℕ → List ℕ
without_start [] = []
without_start (byte ∷ bytes) = if is_white byte then without_start bytes else byte ∷ bytes

-- a byte before what is left of the bytes behind it: gone where it is white and nothing is left
abbrev pub unless_white : ℕ → List ℕ → List ℕ
unless_white byte [] = if is_white byte then [] else byte ∷ []
unless_white byte (next ∷ more) = byte ∷ next ∷ more

abbrev pub without_end : List ℕ → List ℕ
without_end [] = []
without_end (byte ∷ bytes) = unless_white byte (without_end bytes)

-- without the white space at both ends
unfoldable pub trimmed : List ℕ → List ℕ
trimmed text = without_end (without_start text)
