-- The faults of a line after the first, each found by a test that is taken alone.
use Rattle.std.specs.Prelude.{◌≡◌, ◌⊎◌, ℕ, ◌+◌, ◌<◌, ◌≤◌, false, List, [], ◌∷◌, length, drop, codes, Some, Contains}
use Rattle.std.specs.List.{AllZip}
use Rattle.ror_text.specs.FirstFault.{IsFirst}
use Rattle.ror_text.specs.Ids.{IsId}
use Rattle.ror_text.specs.Lines.{has_control, word_at}
use Rattle.ror_text.specs.Numbers.{count_of}
use Rattle.ror_table.specs.declared.amount.Amount.{Amount}
use Rattle.ror_table.specs.declared.fault.What.TheVariants.{Alternatives, Criteria, Classes}
use Rattle.ror_table.specs.declared.fault.TableKind.{TableKind}
use Rattle.ror_table.specs.declared.fault.TableKind.TheVariants.{BadLine, RepeatedId, MissingPerformance, BadNumber, TooMany}
use Rattle.ror_table.specs.declared.limits.TheConstants.{MOST_ALTERNATIVES, MOST_CLASSES, MOST_CRITERIA}
use Rattle.ror_table.specs.declared.plain.Version.{Version}
use Rattle.ror_table.specs.Table.{Criterion, DecisionTable, criterion_ids, alternative_ids}
use Rattle.ror_table.specs.Grammar.{LineWords, criterion_words, MayBeLinear, WritesPerformance}

-- what the line begins with
abbrev pub IsNamed : List ℕ → LineWords → Type 0
IsNamed name line = word_at line 0 ≡ name

-- no line of classes and no alternative stands before
pub record IsEarly (t : DecisionTable) : Type 0 where
  pub classes : t.classes ≡ 0
  pub alternatives : t.alternatives ≡ []

-- `criterion ID max` or `criterion ID min`, and `linear` where it may stand, in its place
pub record IsCriterionLine (version : Version) (t : DecisionTable) (line : LineWords) : Type 0 where
  pub criterion : Criterion
  pub is : line ≡ criterion_words criterion
  pub linear : MayBeLinear version criterion
  pub valid : IsId criterion.id
  pub early : IsEarly t

-- `classes WORD`, in its place
pub record IsClassesLine (t : DecisionTable) (line : LineWords) : Type 0 where
  pub word : List ℕ
  pub is : line ≡ codes "classes" ∷ word ∷ []
  pub early : IsEarly t

-- `alternative ID WORD ..`, with no more words than there are criteria
pub record IsAlternativeLine (t : DecisionTable) (line : LineWords) : Type 0 where
  pub id : List ℕ
  pub words : LineWords
  pub is : line ≡ codes "alternative" ∷ id ∷ words
  pub valid : IsId id
  pub not_more : length words ≤ length t.criteria

-- a line of a known form without control bytes, in its place after the lines of which t was read
pub record HasForm (version : Version) (t : DecisionTable) (line : LineWords) : Type 0 where
  pub visible : has_control line ≡ false
  pub known : IsCriterionLine version t line ⊎ (IsClassesLine t line ⊎ IsAlternativeLine t line)

-- the word is a count above 0
abbrev pub IsSomeCount : List ℕ → Type 0
IsSomeCount word = (n : ℕ) × (count_of word ≡ Some n) × (0 < n)

-- each word is a performance
abbrev pub ArePerformances : Version → LineWords → Type 0
ArePerformances version words = (ps : List Amount) × AllZip (WritesPerformance version) words ps

-- what each test of a line finds at fault, each test taken alone
abbrev pub FailsLine : Version → DecisionTable → LineWords → TableKind → Type 0
FailsLine version t line BadLine = HasForm version t line → ⊥
FailsLine version t line RepeatedId =
    (IsNamed (codes "criterion") line × Contains (criterion_ids t) (word_at line 1))
    ⊎ (IsNamed (codes "alternative") line × Contains (alternative_ids t) (word_at line 1))
FailsLine version t line MissingPerformance =
    IsNamed (codes "alternative") line × (length line < length t.criteria + 2)
FailsLine version t line BadNumber =
    (IsNamed (codes "classes") line × (IsSomeCount (word_at line 1) → ⊥))
    ⊎ (IsNamed (codes "alternative") line × (ArePerformances version (drop 2 line) → ⊥))
FailsLine version t line (TooMany Criteria) =
    IsNamed (codes "criterion") line × (MOST_CRITERIA ≤ length t.criteria)
FailsLine version t line (TooMany Alternatives) =
    IsNamed (codes "alternative") line × (MOST_ALTERNATIVES ≤ length t.alternatives)
FailsLine version t line (TooMany Classes) =
    IsNamed (codes "classes") line
    × ((n : ℕ) × (count_of (word_at line 1) ≡ Some n) × (MOST_CLASSES < n))
FailsLine version t line _ = ⊥

-- the tests in their order
abbrev pub line_stage : TableKind → ℕ
line_stage BadLine = 0
line_stage RepeatedId = 1
line_stage MissingPerformance = 2
line_stage BadNumber = 3
line_stage _ = 4

-- the line has this fault, and none that is looked for before it
abbrev pub IsFirstOfLine : Version → DecisionTable → LineWords → TableKind → Type 0
IsFirstOfLine version t line kind =
    IsFirst (FailsLine version t line) (λ other fault. line_stage other < line_stage fault) kind
