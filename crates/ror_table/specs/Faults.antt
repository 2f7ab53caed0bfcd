-- The first fault of a plain table's text, in the words of the grammar.
use Rattle.std.specs.Prelude.{◌≡◌, ◌≢◌, ◌⊎◌, ℕ, ◌<◌, ◌≤◌, true, List, [], ◌∷◌, ◌++◌, length, map, codes}
use Rattle.std.specs.Str.{IsUtf8}
use Rattle.ror_text.specs.declared.lines.TheConstants.{MOST_TEXT_BYTES}
use Rattle.ror_text.specs.Lines.{numbered_lines, bad_utf8_line}
use Rattle.ror_table.specs.declared.limits.TheConstants.{MOST_STEPS}
use Rattle.ror_table.specs.declared.fault.What.TheVariants.{Steps}
use Rattle.ror_table.specs.declared.fault.TableKind.TheVariants.{Form, NotUtf8, Empty, TooMany, TooLong, WideScale}
use Rattle.ror_table.specs.declared.fault.TableFault.{TableFault}
use Rattle.ror_table.specs.declared.plain.Version.{Version}
use Rattle.ror_table.specs.Table.{DecisionTable, columns, has_wide_scale}
use Rattle.ror_table.specs.Draft.{IsDraft}
use Rattle.ror_table.specs.Plain.{at_line, version_word}
use Rattle.ror_table.specs.Grammar.{LineWords, WritesTable}
use Rattle.ror_table.specs.LineFaults.{IsFirstOfLine}

-- the lines write a table, if not a whole one
pub record HasRead (version : Version) (lines : List LineWords) (t : DecisionTable) : Type 0 where
  pub writes : WritesTable version lines t
  pub draft : IsDraft t

-- the lines before one write a table, to which this one, by its number, cannot be added, and why
pub record IsFaultOfLine (version : Version) (lines : List (ℕ × LineWords)) (fault : TableFault) : Type 0 where
  pub before : List (ℕ × LineWords)
  pub line : ℕ × LineWords
  pub after : List (ℕ × LineWords)
  pub reached : DecisionTable
  pub is : lines ≡ before ++ line ∷ after
  pub reads : HasRead version (map (λ l. l.1) before) reached
  pub first : IsFirstOfLine version reached line.1 fault.kind
  pub number : fault.line ≡ line.0

-- the bytes are within the limit, and a text
pub record IsReadable (bytes : List ℕ) : Type 0 where
  pub short : length bytes ≤ MOST_TEXT_BYTES
  pub utf8 : IsUtf8 bytes

-- the words `ror-table` and `1`, `2` or `3`
abbrev pub head_words : Version → LineWords
head_words version = codes "ror-table" ∷ version_word version ∷ []

-- the first line that is not passed over is these words, and these are the others
pub record BeginsTable (bytes : List ℕ) (version : Version) (rest : List (ℕ × LineWords)) : Type 0 where
  pub readable : IsReadable bytes
  pub number : ℕ
  pub is : numbered_lines bytes ≡ (number, head_words version) ∷ rest

-- all lines are read, and what they write is no table
pub record IsFaultOfWhole (bytes : List ℕ) (Lacks : DecisionTable → Type 0) : Type 0 where
  pub version : Version
  pub rest : List (ℕ × LineWords)
  pub begins : BeginsTable bytes version rest
  pub table : DecisionTable
  pub reads : HasRead version (map (λ l. l.1) rest) table
  pub lacks : Lacks table

abbrev pub IsEmpty : DecisionTable → Type 0
IsEmpty t = (t.criteria ≡ []) ⊎ (t.alternatives ≡ [])

-- the fault is the first that the bytes have
pub data IsFirstFaultOf (bytes : List ℕ) (fault : TableFault) : Type 0 where
  too_long : MOST_TEXT_BYTES < length bytes → fault ≡ at_line 0 TooLong → IsFirstFaultOf bytes fault
  not_utf8 : length bytes ≤ MOST_TEXT_BYTES → (IsUtf8 bytes → ⊥)
      → fault ≡ at_line (bad_utf8_line bytes) NotUtf8 → IsFirstFaultOf bytes fault
  no_line : IsReadable bytes → numbered_lines bytes ≡ [] → fault ≡ at_line 1 Form
      → IsFirstFaultOf bytes fault
  other_line : IsReadable bytes → (line : ℕ × LineWords) → (rest : List (ℕ × LineWords))
      → numbered_lines bytes ≡ line ∷ rest → ((version : Version) → line.1 ≢ head_words version)
      → fault ≡ at_line line.0 Form → IsFirstFaultOf bytes fault
  in_line : (version : Version) → (rest : List (ℕ × LineWords)) → BeginsTable bytes version rest
      → IsFaultOfLine version rest fault → IsFirstFaultOf bytes fault
  nothing_there : IsFaultOfWhole bytes IsEmpty → fault ≡ at_line 0 Empty
      → IsFirstFaultOf bytes fault
  too_many_steps : IsFaultOfWhole bytes (λ t. (IsEmpty t → ⊥) × (MOST_STEPS < columns t))
      → fault ≡ at_line 0 (TooMany Steps) → IsFirstFaultOf bytes fault
  wide_scale : IsFaultOfWhole bytes (λ t. (IsEmpty t → ⊥) × (columns t ≤ MOST_STEPS) × (has_wide_scale t ≡ true))
      → fault ≡ at_line 0 WideScale → IsFirstFaultOf bytes fault
