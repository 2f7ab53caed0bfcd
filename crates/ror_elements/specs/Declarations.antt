-- The encoding that the instruction `<?xml` names.
use Rattle.std.specs.Prelude.{ℕ, ◌+◌, Bool, false, not, ◌&&◌, ◌||◌, List, [], ◌∷◌, ◌++◌, Option, Some, None, ◌==◌, if◌then◌else◌}
use Rattle.std.specs.Str.{bytes_eq, str_eq_ignore_ascii_case}
use Rattle.ror_elements.specs.declared.declaration.Declaration.{Declaration}
use Rattle.ror_elements.specs.declared.declaration.Part.{Part}
use Rattle.ror_elements.specs.declared.declaration.Part.TheVariants as parts
use Rattle.ror_elements.specs.declared.mode.Quote.{Quote}
use Rattle.ror_elements.specs.Marks.{is_white, is_name_byte}
use Rattle.ror_elements.specs.Mode.{is_byte_at, quote_byte, quote_of}

abbrev pub nothing_declared : Declaration
nothing_declared = record { part = parts.Target 0; name = []; value = [] }

-- the target is `xml`, and white space follows it
unfoldable pub in_target : ℕ → Declaration → ℕ → Declaration
in_target seen d byte =
    if is_byte_at (120 ∷ 109 ∷ 108 ∷ []) seen byte then record d { part = parts.Target (seen + 1) }
    else (if seen == 3 && is_white byte then record d { part = parts.Gap }
    else record d { part = parts.Stopped })

unfoldable pub in_gap : Declaration → ℕ → Declaration
in_gap d byte =
    if is_white byte then d
    else (if not (is_name_byte byte) then record d { part = parts.Stopped }
    else record d { part = parts.Name; name = byte ∷ [] })

unfoldable pub after_name : Declaration → ℕ → Declaration
after_name d byte =
    if is_white byte then record d { part = parts.AfterName }
    else (if byte == 61 then record d { part = parts.BeforeValue }
    else record d { part = parts.Stopped })

unfoldable pub in_name : Declaration → ℕ → Declaration
in_name d byte =
    if is_name_byte byte then record d { name = d.name ++ byte ∷ [] } else after_name d byte

abbrev pub quoted : Declaration → Option Quote → Declaration
quoted d None = record d { part = parts.Stopped }
quoted d (Some quote) = record d { part = parts.Value quote; value = [] }

unfoldable pub before_value : Declaration → ℕ → Declaration
before_value d byte = if is_white byte then d else quoted d (quote_of byte)

-- `encoding`
abbrev pub encoding_name : List ℕ
encoding_name = 101 ∷ 110 ∷ 99 ∷ 111 ∷ 100 ∷ 105 ∷ 110 ∷ 103 ∷ []

unfoldable pub end_value : Declaration → Declaration
end_value d =
    if bytes_eq d.name encoding_name then record d { part = parts.Found }
    else record d { part = parts.AfterValue }

unfoldable pub in_value : Quote → Declaration → ℕ → Declaration
in_value quote d byte =
    if byte == quote_byte quote then end_value d
    else (if byte == 60 then record d { part = parts.Stopped }
    else record d { value = d.value ++ byte ∷ [] })

unfoldable pub after_value : Declaration → ℕ → Declaration
after_value d byte =
    if is_white byte then record d { part = parts.Gap } else record d { part = parts.Stopped }

abbrev pub after_in : Part → Declaration → ℕ → Declaration
after_in (parts.Target seen) d byte = in_target seen d byte
after_in parts.Gap d byte = in_gap d byte
after_in parts.Name d byte = in_name d byte
after_in parts.AfterName d byte = after_name d byte
after_in parts.BeforeValue d byte = before_value d byte
after_in (parts.Value quote) d byte = in_value quote d byte
after_in parts.AfterValue d byte = after_value d byte
after_in parts.Found d byte = d
after_in parts.Stopped d byte = d

-- what is known after one more byte
unfoldable pub after : Declaration → ℕ → Declaration
after d byte = after_in d.part d byte

abbrev pub is_utf8_name : List ℕ → Bool
is_utf8_name value =
    str_eq_ignore_ascii_case value (85 ∷ 84 ∷ 70 ∷ 45 ∷ 56 ∷ [])
    || str_eq_ignore_ascii_case value (85 ∷ 84 ∷ 70 ∷ 56 ∷ [])

abbrev pub is_foreign_in : Part → List ℕ → Bool
is_foreign_in (parts.Target seen) value = false
is_foreign_in parts.Gap value = false
is_foreign_in parts.Name value = false
is_foreign_in parts.AfterName value = false
is_foreign_in parts.BeforeValue value = false
is_foreign_in (parts.Value quote) value = false
is_foreign_in parts.AfterValue value = false
is_foreign_in parts.Found value = not (is_utf8_name value)
is_foreign_in parts.Stopped value = false

-- another encoding than UTF-8 is named
unfoldable pub is_foreign : Declaration → Bool
is_foreign d = is_foreign_in d.part d.value
