-- The bytes of a text that stands in place or apart.
use Rattle.std.specs.Prelude.{ℕ, List, take, ◌≤◌}
use Rattle.std.specs.Str.{IsUtf8}
use Rattle.ror_elements.specs.declared.short.Held.{Held}
use Rattle.ror_elements.specs.declared.short.Held.TheVariants as held

abbrev pub held_bytes : Held → List ℕ
held_bytes (held.Here bytes count) = take count bytes
held_bytes (held.Apart text) = text.value

-- no more bytes stand in place than there is room, and they are UTF-8
abbrev pub IsHeld : Held → Type 0
IsHeld (held.Here bytes count) = (count ≤ 7) × IsUtf8 (take count bytes)
IsHeld (held.Apart text) = Unit {0}
