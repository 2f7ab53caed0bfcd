-- A place in a text, with what stands from there on, and the line that begins there.
use Rattle.std.specs.Prelude.{ℕ, ◌+◌, List, length, drop, Option}
use Rattle.std.specs.List.{before_first}
use Rattle.std.specs.Option.{option_map}
use Rattle.ror_text.specs.Lines.{is_line_end}
use Rattle.ror_text.specs.SpacedLines.{split_line, spaced_words}

pub record Cursor : Type 0 where
  pub place : ℕ
  pub rest : List ℕ

abbrev pub cursor_at : List ℕ → ℕ → Cursor
cursor_at bytes from = record { place = from; rest = drop from bytes }

-- the words of the line that begins here, empty ones too
unfoldable pub line_words : Cursor → List (List ℕ)
line_words c = spaced_words (before_first is_line_end c.rest)

-- where the next line begins, if a line feed ends this one
unfoldable pub line_after : Cursor → Option Cursor
line_after c =
    option_map (λ parts. record { place = c.place + length parts.0 + 1; rest = parts.1 })
    (split_line c.rest)
