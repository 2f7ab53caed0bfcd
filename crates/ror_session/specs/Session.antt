-- What the bytes of a session are read as, or the first fault.
use Rattle.std.specs.Prelude.{ℕ, ◌+◌, Bool, not, List, [], ◌∷◌, ◌++◌, length, drop, slice_index, position, Option, Some, None, Result, Ok, nat_lt, nat_le, ◌==◌, if◌then◌else◌}
use Rattle.std.specs.Str.{bytes_eq, is_utf8}
use Rattle.ror_text.specs.declared.lines.TheConstants.{MOST_TEXT_BYTES}
use Rattle.ror_text.specs.Lines.{numbered_lines, line_count, has_control, word_at}
use Rattle.ror_text.specs.Reading.{◌>>=◌, refuse, read_all}
use Rattle.ror_session.specs.Command.{command_of}
use Rattle.ror_session.specs.Grammar.{LineWords}
use Rattle.ror_session.specs.declared.limits.TheConstants.{MOST_DESKS, MOST_DESK_NAME_BYTES, MOST_LINES}
use Rattle.ror_session.specs.declared.reading.Draft.{Draft}
use Rattle.ror_session.specs.declared.reading.Said.{Said}
use Rattle.ror_session.specs.declared.session.Session.{Session}
use Rattle.ror_session.specs.declared.session.SessionFault.{SessionFault}
use Rattle.ror_session.specs.declared.session.SessionFault.TheVariants as faults

-- a word that names a desk begins with `@`
abbrev pub has_desk_word : LineWords → Bool
has_desk_word ws = slice_index (word_at ws 0) 0 == 64

-- the name of a line's desk: what follows the `@`, or nothing
unfoldable pub desk_of : ℕ → LineWords → Result (List ℕ) SessionFault
desk_of line ws = if has_desk_word ws then (do
  _ ← refuse (faults.BadLine line) (length (word_at ws 0) == 1)
  _ ← refuse (faults.BadLine line) (nat_lt (MOST_DESK_NAME_BYTES + 1) (length (word_at ws 0)))
  Ok (drop 1 (word_at ws 0))) else Ok []

abbrev pub command_words : LineWords → LineWords
command_words ws = if has_desk_word ws then drop 1 ws else ws

-- what a line says, by its number and its words
unfoldable pub said_of : ℕ → LineWords → Result Said SessionFault
said_of line ws = do
  _ ← refuse (faults.BadLine line) (has_control ws)
  desk ← desk_of line ws
  command ← command_of line (command_words ws)
  Ok (record { number = line; desk = desk; command = command })

-- the place of the desk with this name, from 0, if there is one
abbrev pub find_desk : List (List ℕ) → List ℕ → Option ℕ
find_desk desks name = position (λ desk. bytes_eq name desk) desks

-- the place of a line's desk and the desks, where one with its name was found, or else one more
abbrev pub seat_at : ℕ → List (List ℕ) → List ℕ → Option ℕ
    → Result (ℕ × List (List ℕ)) SessionFault
seat_at line desks name (Some place) = Ok (place, desks)
seat_at line desks name None = do
  _ ← refuse (faults.TooManyDesks line) (nat_le MOST_DESKS (length desks))
  Ok (length desks, desks ++ name ∷ [])

unfoldable pub seat : ℕ → List (List ℕ) → List ℕ → Result (ℕ × List (List ℕ)) SessionFault
seat line desks name = seat_at line desks name (find_desk desks name)

-- the session of the lines before, and what the next one says
unfoldable pub add_said : Session → Said → Result Session SessionFault
add_said session said = do
  seated ← seat said.number session.desks said.desk
  Ok (record {
    desks = seated.1;
    lines = session.lines ++ record {
      number = said.number;
      desk = seated.0;
      command = said.command;
    } ∷ [];
  })

-- the session of the lines before, and the next one
abbrev pub add_line : Session → ℕ × LineWords → Result Session SessionFault
add_line session line = said_of line.0 line.1 >>= λ said. add_said session said

-- what a session that is being read holds
abbrev pub contents : Draft → Session
contents draft = record { desks = draft.desks.items; lines = draft.lines.items }

abbrev pub empty_session : Session
empty_session = record { desks = []; lines = [] }

unfoldable pub session_of : List ℕ → Result Session SessionFault
session_of bytes = do
  _ ← refuse faults.TooLong (nat_lt MOST_TEXT_BYTES (length bytes))
  _ ← refuse faults.NotUtf8 (not (is_utf8 bytes))
  _ ← refuse faults.TooManyLines (nat_lt MOST_LINES (line_count bytes))
  read_all add_line empty_session (numbered_lines bytes)
