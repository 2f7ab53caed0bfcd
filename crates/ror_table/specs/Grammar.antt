-- The grammar of a plain table: which lines write which table.
use Rattle.std.specs.Prelude.{◌≡◌, ℕ, ◌<◌, ◌≤◌, Bool, true, false, List, [], ◌∷◌, ◌++◌, length, map, codes, Some, All}
use Rattle.std.specs.List.{AllZip}
use Rattle.std.specs.Str.{IsUtf8}
use Rattle.ror_text.specs.declared.lines.TheConstants.{MOST_TEXT_BYTES}
use Rattle.ror_text.specs.Lines.{numbered_lines}
use Rattle.ror_text.specs.Numbers.{count_of}
use Rattle.ror_table.specs.declared.amount.Amount.{Amount}
use Rattle.ror_table.specs.declared.direction.Direction.{Direction}
use Rattle.ror_table.specs.declared.direction.Direction.TheVariants.{Max, Min}
use Rattle.ror_table.specs.declared.plain.Version.{Version}
use Rattle.ror_table.specs.declared.plain.Version.TheVariants.{One, Two, Three}
use Rattle.ror_table.specs.Spellings.{WritesAmount, WritesWholeAmount}
use Rattle.ror_table.specs.Plain.{version_word, takes_linear}
use Rattle.ror_table.specs.Table.{Criterion, Alternative, DecisionTable, IsTable}

-- a line is its words
abbrev pub LineWords : Type 0
LineWords = List (List ℕ)

abbrev pub direction_word : Direction → List ℕ
direction_word Max = codes "max"
direction_word Min = codes "min"

-- the word `linear` where the criterion is
abbrev pub linear_words : Bool → LineWords
linear_words true = codes "linear" ∷ []
linear_words false = []

-- `criterion ID max` or `criterion ID min`, and `linear` where it is
abbrev pub criterion_words : Criterion → LineWords
criterion_words c =
    codes "criterion" ∷ c.id ∷ direction_word c.direction ∷ linear_words c.linear

-- only a `ror-table 3` may have linear criteria
abbrev pub MayBeLinear : Version → Criterion → Type 0
MayBeLinear version c = c.linear ≡ true → takes_linear version ≡ true

-- a performance of a `ror-table 1` is a whole number, one of another table a whole number, a decimal or a ratio
abbrev pub WritesPerformance : Version → List ℕ → Amount → Type 0
WritesPerformance One word p = WritesWholeAmount word p
WritesPerformance Two word p = WritesAmount word p
WritesPerformance Three word p = WritesAmount word p

-- the line `classes COUNT` for some classes, and no line for none
abbrev pub WritesClasses : List LineWords → ℕ → Type 0
WritesClasses [] n = n ≡ 0
WritesClasses (line ∷ []) n =
    (word : List ℕ) × (line ≡ codes "classes" ∷ word ∷ []) × (count_of word ≡ Some n) × (0 < n)
WritesClasses (line ∷ other ∷ lines) n = ⊥

-- `alternative ID PERFORMANCE ..`
pub record WritesAlternative (version : Version) (line : LineWords) (a : Alternative) : Type 0 where
  pub numbers : LineWords
  pub is : line ≡ codes "alternative" ∷ a.id ∷ numbers
  pub written : AllZip (WritesPerformance version) numbers a.performances

-- the criteria, then the classes, then the alternatives
pub record WritesTable (version : Version) (lines : List LineWords) (t : DecisionTable) : Type 0 where
  pub classes_lines : List LineWords
  pub alternative_lines : List LineWords
  pub is : lines ≡ map criterion_words t.criteria ++ (classes_lines ++ alternative_lines)
  pub classes : WritesClasses classes_lines t.classes
  pub linear : All (MayBeLinear version) t.criteria
  pub alternatives : AllZip (WritesAlternative version) alternative_lines t.alternatives

-- the line `ror-table 1`, `ror-table 2` or `ror-table 3`, and the lines that write such a table
pub record IsPlainTable (lines : List LineWords) (t : DecisionTable) : Type 0 where
  pub version : Version
  pub rest : List LineWords
  pub is : lines ≡ (codes "ror-table" ∷ version_word version ∷ []) ∷ rest
  pub writes : WritesTable version rest t

-- the lines of a text that are not passed over
abbrev pub lines_of : List ℕ → List LineWords
lines_of bytes = map (λ line. line.1) (numbered_lines bytes)

-- the bytes are a text of the table
pub record IsPlainText (bytes : List ℕ) (t : DecisionTable) : Type 0 where
  pub short : length bytes ≤ MOST_TEXT_BYTES
  pub utf8 : IsUtf8 bytes
  pub lines : IsPlainTable (lines_of bytes) t
  pub table : IsTable t
