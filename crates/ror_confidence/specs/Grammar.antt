-- The grammar of a file of levels, and its first fault.
use Rattle.std.specs.Prelude.{◌≡◌, ℕ, ◌+◌, ◌<◌, ◌≤◌, true, nat_eq, List, [], ◌∷◌, ◌++◌, length, map, codes, Some}
use Rattle.std.specs.List.{AllZip}
use Rattle.std.specs.Set.{is_member}
use Rattle.std.specs.Str.{IsUtf8}
use Rattle.ror_text.specs.Lines.{line_count, numbered_lines}
use Rattle.ror_text.specs.Numbers.{count_of}
use Rattle.ror_statement.specs.declared.statement.Numbered.{Numbered}
use Rattle.ror_statement.specs.Statements.{numbers_in}
use Rattle.ror_confidence.specs.declared.fault.LevelsFault.{LevelsFault}
use Rattle.ror_confidence.specs.declared.fault.LevelsFault.TheVariants as faults
use Rattle.ror_confidence.specs.declared.levels.Levels.{Levels}
use Rattle.ror_confidence.specs.declared.levels.TheConstants.{MOST_LEVELS}
use Rattle.ror_confidence.specs.declared.read.TheConstants.{MOST_LEVELS_BYTES}
use Rattle.ror_confidence.specs.Levels.{AreLevelsOf}
use Rattle.ror_confidence.specs.Reading.{LevelsLine}

-- ---- lines

-- `ror-levels 1`
abbrev pub IsHeader : LevelsLine → Type 0
IsHeader line = line.1 ≡ codes "ror-levels" ∷ codes "1" ∷ []

-- `count N`, with as many levels as there may be at most
pub record IsCount (line : LevelsLine) (count : ℕ) : Type 0 where
  pub word : List ℕ
  pub is : line.1 ≡ codes "count" ∷ word ∷ []
  pub writes : count_of word ≡ Some count
  pub some : 1 ≤ count
  pub few : count ≤ MOST_LEVELS

-- `put NUMBER LEVEL`, on one of so many levels
pub record IsPut (count : ℕ) (line : LevelsLine) (put : ℕ × ℕ) : Type 0 where
  pub number : List ℕ
  pub level : List ℕ
  pub is : line.1 ≡ codes "put" ∷ number ∷ level ∷ []
  pub writes_number : count_of number ≡ Some put.0
  pub writes_level : count_of level ≡ Some put.1
  pub from_first : 1 ≤ put.1
  pub to_last : put.1 ≤ count

-- ---- files

-- the lines give these levels of the statements: the first line is the header, the second says how many there are, and each other
-- one puts a statement that stands, none twice
pub record AreLevelsLines (standing : List Numbered) (lines : List LevelsLine) (levels : Levels) : Type 0 where
  pub header : LevelsLine
  pub counted : LevelsLine
  pub puts : List LevelsLine
  pub split : lines ≡ header ∷ counted ∷ puts
  pub headed : IsHeader header
  pub counts : IsCount counted levels.count
  pub placed : AllZip (IsPut levels.count) puts levels.put
  pub sound : AreLevelsOf standing levels

-- the bytes are few enough, and a text
pub record IsReadable (bytes : List ℕ) : Type 0 where
  pub few : length bytes ≤ MOST_LEVELS_BYTES
  pub utf8 : IsUtf8 bytes

-- the bytes are a file of these levels
pub record IsLevelsText (standing : List Numbered) (bytes : List ℕ) (levels : Levels) : Type 0 where
  pub readable : IsReadable bytes
  pub lines : AreLevelsLines standing (numbered_lines bytes) levels

-- ---- first faults

-- a line of the text stands behind lines that give these levels
pub record IsBehind (standing : List Numbered) (bytes : List ℕ) (levels : Levels) (line : LevelsLine) : Type 0 where
  pub readable : IsReadable bytes
  pub before : List LevelsLine
  pub after : List LevelsLine
  pub split : numbered_lines bytes ≡ before ++ line ∷ after
  pub reads : AreLevelsLines standing before levels

-- a statement of this number is put on a level; stands
abbrev pub IsPutIn : Levels → ℕ → Type 0
IsPutIn levels number = is_member nat_eq (map (λ p. p.0) levels.put) number ≡ true

abbrev pub Stands : List Numbered → ℕ → Type 0
Stands standing number = is_member nat_eq (numbers_in standing) number ≡ true

-- The fault is the first of the bytes. They are too many, or no text; they lack the header, or the line that says how many levels
-- there are; one of these is another line; or a line behind them puts nothing, puts a statement again, or one that doesn't stand.
pub data IsFirstLevelsFault (standing : List Numbered) (bytes : List ℕ) (fault : LevelsFault) : Type 0 where
  too_long : MOST_LEVELS_BYTES < length bytes → fault ≡ faults.TooLong → IsFirstLevelsFault standing bytes fault
  not_utf8 : length bytes ≤ MOST_LEVELS_BYTES → ¬ (IsUtf8 bytes) → fault ≡ faults.NotUtf8
      → IsFirstLevelsFault standing bytes fault
  no_header : IsReadable bytes → numbered_lines bytes ≡ [] → fault ≡ faults.BadLine (line_count bytes + 1)
      → IsFirstLevelsFault standing bytes fault
  other_header : (line : LevelsLine) (lines : List LevelsLine) → IsReadable bytes
      → numbered_lines bytes ≡ line ∷ lines → ¬ (IsHeader line) → fault ≡ faults.BadLine line.0
      → IsFirstLevelsFault standing bytes fault
  no_count : (header : LevelsLine) → IsReadable bytes → numbered_lines bytes ≡ header ∷ [] → IsHeader header
      → fault ≡ faults.BadLine (line_count bytes + 1) → IsFirstLevelsFault standing bytes fault
  other_count : (header line : LevelsLine) (lines : List LevelsLine) → IsReadable bytes
      → numbered_lines bytes ≡ header ∷ line ∷ lines → IsHeader header → ((n : ℕ) → ¬ (IsCount line n))
      → fault ≡ faults.BadLine line.0 → IsFirstLevelsFault standing bytes fault
  no_put : (levels : Levels) (line : LevelsLine) → IsBehind standing bytes levels line
      → ((p : ℕ × ℕ) → ¬ (IsPut levels.count line p)) → fault ≡ faults.BadLine line.0
      → IsFirstLevelsFault standing bytes fault
  put_again : (levels : Levels) (line : LevelsLine) (p : ℕ × ℕ) → IsBehind standing bytes levels line
      → IsPut levels.count line p → IsPutIn levels p.0 → fault ≡ faults.Repeated line.0
      → IsFirstLevelsFault standing bytes fault
  put_unknown : (levels : Levels) (line : LevelsLine) (p : ℕ × ℕ) → IsBehind standing bytes levels line
      → IsPut levels.count line p → ¬ (IsPutIn levels p.0) → ¬ (Stands standing p.0)
      → fault ≡ faults.UnknownStatement line.0 → IsFirstLevelsFault standing bytes fault
