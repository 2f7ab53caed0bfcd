-- What may name a criterion or an alternative.
use Rattle.std.specs.Prelude.{◌≡◌, Bool, true, not, ◌&&◌, ℕ, List, length, slice_index, nat_lt, nat_le, ◌==◌}
use Rattle.std.specs.List.{list_any}
use Rattle.std.specs.Str.{is_utf8}
use Rattle.ror_text.specs.Lines.{is_control}

-- 1 to 64 bytes of UTF-8, none below 0x21 and none 0x7F, of which the first is neither `@` nor `#`
unfoldable pub is_id : List ℕ → Bool
is_id word =
    nat_lt 0 (length word) && nat_le (length word) 64 && is_utf8 word
    && not (list_any is_control word)
    && not (slice_index word 0 == 64) && not (slice_index word 0 == 35)

abbrev pub IsId : List ℕ → Type 0
IsId word = is_id word ≡ true
