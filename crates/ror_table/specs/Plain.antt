-- The plain text of a table: what is read of it, or its first fault.
use Rattle.std.specs.Prelude.{ℕ, ◌+◌, Bool, not, ◌&&◌, ◌||◌, ◌==◌, true, false, nat_lt, if◌then◌else◌, List, [], ◌∷◌, length, drop, codes, Option, Some, None, Result, Ok, Err}
use Rattle.std.specs.Option.{option_map, option_and_then, option_map_or}
use Rattle.std.specs.List.{find}
use Rattle.std.specs.Str.{bytes_eq, is_utf8}
use Rattle.ror_text.specs.declared.lines.TheConstants.{MOST_TEXT_BYTES}
use Rattle.ror_text.specs.Lines.{has_control, numbered_lines, bad_utf8_line, word_at}
use Rattle.ror_text.specs.Numbers.{count_of}
use Rattle.ror_text.specs.Reading.{◌>>=◌, refuse, need, read_all}
use Rattle.ror_table.specs.declared.limits.TheConstants.{MOST_CLASSES}
use Rattle.ror_table.specs.declared.amount.Amount.{Amount}
use Rattle.ror_table.specs.declared.direction.Direction.{Direction}
use Rattle.ror_table.specs.declared.direction.Direction.TheVariants.{Max, Min}
use Rattle.ror_table.specs.declared.fault.What.TheVariants.{Alternatives, Criteria, Steps, Classes}
use Rattle.ror_table.specs.declared.fault.TableKind.{TableKind}
use Rattle.ror_table.specs.declared.fault.TableKind.TheVariants.{Form, NotUtf8, BadLine, RepeatedId, MissingPerformance, BadNumber, TooMany, Empty, TooLong, WideScale}
use Rattle.ror_table.specs.declared.fault.TableFault.{TableFault}
use Rattle.ror_table.specs.declared.fault.TableError.{TableError}
use Rattle.ror_table.specs.declared.fault.TableError.TheVariants as errors
use Rattle.ror_table.specs.declared.plain.Version.{Version}
use Rattle.ror_table.specs.declared.plain.Version.TheVariants.{One, Two, Three}
use Rattle.ror_table.specs.Spellings.{performance_in}
use Rattle.ror_table.specs.Table.{DecisionTable, alternative_ids}
use Rattle.ror_table.specs.Draft.{empty_table, free_id, with_criterion, place_alternative, finished}

-- the fault that an error names: none for want of memory
abbrev pub table_fault : TableError → Option TableFault
table_fault (errors.Bad fault) = Some fault
table_fault errors.Memory = None

-- a fault of this kind at a line; the whole file is line 0
abbrev pub at_line : ℕ → TableKind → TableFault
at_line line kind = record { kind = kind; line = line }

-- the number behind `ror-table`
abbrev pub version_word : Version → List ℕ
version_word One = codes "1"
version_word Two = codes "2"
version_word Three = codes "3"

-- of which of the three kinds a table with this word is
abbrev pub version_of : List ℕ → Option Version
version_of word = find (λ version. bytes_eq word (version_word version)) (One ∷ Two ∷ Three ∷ [])

-- the two words `ror-table` and `1`, `2` or `3`
abbrev pub head_of : List (List ℕ) → Option Version
head_of words = if length words == 2 && bytes_eq (word_at words 0) (codes "ror-table")
    then version_of (word_at words 1) else None

abbrev pub direction_of : List ℕ → Option Direction
direction_of word = if bytes_eq word (codes "max") then Some Max
    else (if bytes_eq word (codes "min") then Some Min else None)

-- whether a criterion may be linear
abbrev pub takes_linear : Version → Bool
takes_linear One = false
takes_linear Two = false
takes_linear Three = true

-- whether the words of a criterion make it linear: three don't, and in a `ror-table 3` `linear` as the fourth does
abbrev pub linear_of : Version → List (List ℕ) → Option Bool
linear_of version words = if length words == 3 then Some false
    else (if takes_linear version && length words == 4 && bytes_eq (word_at words 3) (codes "linear")
    then Some true else None)

-- the performances that the words write, or None where one writes none
abbrev pub performances_of : Version → List (List ℕ) → Option (List Amount)
performances_of version [] = Some []
performances_of version (word ∷ words) =
    option_and_then (λ p. option_map (λ ps. p ∷ ps) (performances_of version words)) (performance_in version word)

-- a line of classes or of an alternative stands before: no criterion and no line of classes may
-- follow it
abbrev pub is_past_criteria : DecisionTable → Bool
is_past_criteria t = not (t.classes == 0) || not (length t.alternatives == 0)

-- `criterion ID max` or `criterion ID min`, and maybe `linear`
unfoldable pub criterion_line : Version → ℕ → DecisionTable → List (List ℕ) → Result DecisionTable TableFault
criterion_line version line t words = do
  _ ← refuse (at_line line BadLine) (nat_lt (length words) 3)
  direction ← need (at_line line BadLine) (direction_of (word_at words 2))
  linear ← need (at_line line BadLine) (linear_of version words)
  _ ← refuse (at_line line BadLine) (is_past_criteria t)
  with_criterion (at_line line BadLine) (at_line line RepeatedId)
      (at_line line (TooMany Criteria)) t (word_at words 1)
      (record { direction = direction; linear = linear })

-- `classes COUNT`
unfoldable pub classes_line : ℕ → DecisionTable → List (List ℕ) → Result DecisionTable TableFault
classes_line line t words = do
  _ ← refuse (at_line line BadLine) (not (length words == 2))
  _ ← refuse (at_line line BadLine) (is_past_criteria t)
  count ← need (at_line line BadNumber) (count_of (word_at words 1))
  _ ← refuse (at_line line BadNumber) (count == 0)
  _ ← refuse (at_line line (TooMany Classes)) (nat_lt MOST_CLASSES count)
  Ok (record t { classes = count })

-- `alternative ID PERFORMANCE ..`, one performance for each criterion
unfoldable pub alternative_line : Version → ℕ → DecisionTable → List (List ℕ)
    → Result DecisionTable TableFault
alternative_line version line t words = do
  _ ← refuse (at_line line BadLine) (nat_lt (length words) 2)
  _ ← refuse (at_line line BadLine) (nat_lt (length t.criteria + 2) (length words))
  _ ← free_id (at_line line BadLine) (at_line line RepeatedId) (alternative_ids t) (word_at words 1)
  _ ← refuse (at_line line MissingPerformance) (nat_lt (length words) (length t.criteria + 2))
  performances ← need (at_line line BadNumber) (performances_of version (drop 2 words))
  place_alternative (at_line line (TooMany Alternatives)) t (word_at words 1) performances

-- the first word says what a line is
unfoldable pub known_line : Version → ℕ → DecisionTable → List (List ℕ) → Result DecisionTable TableFault
known_line version line t words =
    if bytes_eq (word_at words 0) (codes "criterion") then criterion_line version line t words
    else (if bytes_eq (word_at words 0) (codes "classes") then classes_line line t words
    else (if bytes_eq (word_at words 0) (codes "alternative") then alternative_line version line t words
    else Err (at_line line BadLine)))

-- a line after the first: what is read of it after the lines before, of which t was read
unfoldable pub body_line : Version → DecisionTable → ℕ × List (List ℕ) → Result DecisionTable TableFault
body_line version t line = do
  _ ← refuse (at_line line.0 BadLine) (has_control line.1)
  known_line version line.0 t line.1

-- the first line that is not passed over, and the lines after it
pub record Head : Type 0 where
  pub version : Version
  pub rest : List (ℕ × List (List ℕ))

-- the kind of table that the first line names, and the lines after it
abbrev pub after_head : List (ℕ × List (List ℕ)) → Result Head TableFault
after_head [] = Err (at_line 1 Form)
after_head (line ∷ lines) =
    option_map_or (λ version. Ok (record { version = version; rest = lines })) (head_of line.1)
    (Err (at_line line.0 Form))

unfoldable pub plain_table : List ℕ → Result DecisionTable TableFault
plain_table bytes = do
  _ ← refuse (at_line 0 TooLong) (nat_lt MOST_TEXT_BYTES (length bytes))
  _ ← refuse (at_line (bad_utf8_line bytes) NotUtf8) (not (is_utf8 bytes))
  head ← after_head (numbered_lines bytes)
  t ← read_all (body_line head.version) empty_table head.rest
  finished (at_line 0 Empty) (at_line 0 (TooMany Steps)) (at_line 0 WideScale) t
