-- What a file of levels is read as, or its first fault.
use Rattle.std.specs.Prelude.{ℕ, ◌+◌, not, ◌||◌, ◌==◌, nat_eq, nat_lt, List, [], ◌∷◌, ◌++◌, length, codes, Option, Some, None, Result, Ok, Err}
use Rattle.std.specs.List.{list_any}
use Rattle.std.specs.Str.{bytes_eq, is_utf8}
use Rattle.ror_text.specs.Lines.{line_count, numbered_lines, word_at}
use Rattle.ror_text.specs.Numbers.{count_of}
use Rattle.ror_text.specs.Reading.{◌>>=◌, need, read_all, refuse}
use Rattle.ror_statement.specs.declared.statement.Numbered.{Numbered}
use Rattle.ror_confidence.specs.declared.fault.LevelsFault.{LevelsFault}
use Rattle.ror_confidence.specs.declared.fault.LevelsFault.TheVariants as faults
use Rattle.ror_confidence.specs.declared.fault.LevelsFault.TheVariants.{BadLine}
use Rattle.ror_confidence.specs.declared.levels.Levels.{Levels}
use Rattle.ror_confidence.specs.declared.levels.TheConstants.{MOST_LEVELS}
use Rattle.ror_confidence.specs.declared.read.TheConstants.{MOST_LEVELS_BYTES}

-- a line's number in the file, and its words
abbrev pub LevelsLine : Type 0
LevelsLine = ℕ × List (List ℕ)

-- the fault that an error names: none for want of memory
abbrev pub levels_fault : LevelsFault → Option LevelsFault
levels_fault faults.Memory = None
levels_fault fault = Some fault

-- `ror-levels 1`
unfoldable pub header : LevelsLine → Result (Unit {0}) LevelsFault
header line = do
  _ ← refuse (BadLine line.0) (not (length line.1 == 2))
  _ ← refuse (BadLine line.0) (not (bytes_eq (word_at line.1 0) (codes "ror-levels")))
  refuse (BadLine line.0) (not (bytes_eq (word_at line.1 1) (codes "1")))

-- `count N`, N a level at least and not more than may be
unfoldable pub level_count : LevelsLine → Result ℕ LevelsFault
level_count line = do
  _ ← refuse (BadLine line.0) (not (length line.1 == 2))
  _ ← refuse (BadLine line.0) (not (bytes_eq (word_at line.1 0) (codes "count")))
  n ← need (BadLine line.0) (count_of (word_at line.1 1))
  _ ← refuse (BadLine line.0) (n == 0 || nat_lt MOST_LEVELS n)
  Ok n

-- `put NUMBER LEVEL`, LEVEL one of so many
unfoldable pub placement : ℕ → LevelsLine → Result (ℕ × ℕ) LevelsFault
placement count line = do
  _ ← refuse (BadLine line.0) (not (length line.1 == 3))
  _ ← refuse (BadLine line.0) (not (bytes_eq (word_at line.1 0) (codes "put")))
  number ← need (BadLine line.0) (count_of (word_at line.1 1))
  level ← need (BadLine line.0) (count_of (word_at line.1 2))
  _ ← refuse (BadLine line.0) (level == 0 || nat_lt count level)
  Ok (number, level)

-- the levels of the lines before, and the next line: it puts a statement that stands, and that no line before it puts
unfoldable pub add_line : List Numbered → Levels → LevelsLine → Result Levels LevelsFault
add_line standing levels line = do
  p ← placement levels.count line
  _ ← refuse (faults.Repeated line.0) (list_any (λ q. nat_eq p.0 q.0) levels.put)
  _ ← refuse (faults.UnknownStatement line.0) (not (list_any (λ x. nat_eq p.0 x.number) standing))
  Ok (record { count = levels.count; put = levels.put ++ p ∷ [] })

-- the levels of the lines after the header; where there is none, the fault is at the line past the last
abbrev pub counted_lines : List Numbered → ℕ → List LevelsLine → Result Levels LevelsFault
counted_lines standing past [] = Err (BadLine past)
counted_lines standing past (line ∷ lines) =
    level_count line >>= λ n. read_all (add_line standing) (record { count = n; put = [] }) lines

-- those of all lines
abbrev pub headed_lines : List Numbered → ℕ → List LevelsLine → Result Levels LevelsFault
headed_lines standing past [] = Err (BadLine past)
headed_lines standing past (line ∷ lines) = header line >>= λ _. counted_lines standing past lines

unfoldable pub levels_of : List Numbered → List ℕ → Result Levels LevelsFault
levels_of standing bytes = do
  _ ← refuse faults.TooLong (nat_lt MOST_LEVELS_BYTES (length bytes))
  _ ← refuse faults.NotUtf8 (not (is_utf8 bytes))
  headed_lines standing (line_count bytes + 1) (numbered_lines bytes)
