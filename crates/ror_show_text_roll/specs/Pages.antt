-- The rolls of desks as plain text.
use Rattle.std.specs.Prelude.{ℕ, ◌-◌, List, [], ◌++◌, length, codes, Option, Some, None, slice_get, slice_index_or}
use Rattle.std.specs.List.{flat_map}
use Rattle.std.specs.Option.{option_map_or}
use Rattle.ror_session.specs.declared.session.Line.{Line}
use Rattle.ror_show_ground.specs.Grounds.{Ground}
use Rattle.ror_show_find_roll.specs.declared.findings.RollFound.{RollFound}
use Rattle.ror_show_text_roll.specs.Page.{roll_text}

-- the number of the last line, and 0 where there is none
abbrev pub last_number : List Line → ℕ
last_number lines = option_map_or (λ line. line.number) (slice_get lines (length lines - 1)) 0

-- the line that is meant, or the last one
abbrev pub line_of : Option ℕ → List Line → ℕ
line_of None lines = last_number lines
line_of (Some line) lines = line

-- the roll of a desk, and an empty line
unfoldable pub roll_words : Ground → Option ℕ → RollFound → List ℕ
roll_words g line f =
    roll_text g (slice_index_or g.session.desks f.desk []) (line_of line g.session.lines) f.roll ++ codes "\n"

-- of all of them, in order
abbrev pub rolls_text : Ground → Option ℕ → List RollFound → List ℕ
rolls_text g line fs = flat_map (roll_words g line) fs
