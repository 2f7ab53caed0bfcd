-- What a reader is in the middle of.
use Rattle.std.specs.Prelude.{ℕ, Bool, true, false, List, [], ◌∷◌, slice_get, Option, Some, None, ◌==◌, if◌then◌else◌}
use Rattle.ror_elements.specs.declared.mode.Opening.{Opening}
use Rattle.ror_elements.specs.declared.mode.Opening.TheVariants as openings
use Rattle.ror_elements.specs.declared.mode.Mode.{Mode}
use Rattle.ror_elements.specs.declared.mode.Mode.TheVariants as modes
use Rattle.ror_elements.specs.declared.mode.Quote.{Quote}
use Rattle.ror_elements.specs.declared.mode.Quote.TheVariants as quotes
use Rattle.ror_elements.specs.declared.mode.Seen.{Seen}
use Rattle.ror_elements.specs.declared.mode.Seen.TheVariants as seen

-- what stands behind `<!`: `--`, `[CDATA[` or `DOCTYPE`
abbrev pub opening_text : Opening → List ℕ
opening_text openings.Comment = 45 ∷ 45 ∷ []
opening_text openings.Section = 91 ∷ 67 ∷ 68 ∷ 65 ∷ 84 ∷ 65 ∷ 91 ∷ []
opening_text openings.Doctype = 68 ∷ 79 ∷ 67 ∷ 84 ∷ 89 ∷ 80 ∷ 69 ∷ []

abbrev pub quote_byte : Quote → ℕ
quote_byte quotes.Single = 39
quote_byte quotes.Double = 34

abbrev pub quote_of : ℕ → Option Quote
quote_of byte = if byte == 34 then Some quotes.Double else (if byte == 39 then Some quotes.Single else None)

-- two marks were seen, and this is the `>` behind them
abbrev pub is_ended_by : Seen → ℕ → Bool
is_ended_by seen.Nothing byte = false
is_ended_by seen.One byte = false
is_ended_by seen.Two byte = byte == 62

abbrev pub one_more : Seen → Seen
one_more seen.Nothing = seen.One
one_more seen.One = seen.Two
one_more seen.Two = seen.Two

-- what was seen of the mark last, after one more byte
abbrev pub seen_after : Seen → ℕ → ℕ → Seen
seen_after before mark byte = if byte == mark then one_more before else seen.Nothing

abbrev pub is_this : Option ℕ → ℕ → Bool
is_this None byte = false
is_this (Some there) byte = there == byte

abbrev pub is_byte_at : List ℕ → ℕ → ℕ → Bool
is_byte_at text place byte = is_this (slice_get text place) byte

-- in the middle of nothing
abbrev pub is_between : Mode → Bool
is_between modes.Start = true
is_between modes.Content = true
is_between _ = false
