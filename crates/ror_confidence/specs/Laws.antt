-- The laws of levels and spans.
use Rattle.std.specs.Prelude.{◌≡◌, ◌↔◌, ℕ, ◌<◌, List, length, Ok, Err}
use Rattle.ror_statement.specs.declared.statement.Numbered.{Numbered}
use Rattle.ror_statement.specs.declared.statement.Statement.{Statement}
use Rattle.ror_statement.specs.declared.question.Question.TheVariants.{Necessary, Possible}
use Rattle.ror_statement.specs.declared.question.Conclusion.TheVariants.{Yes}
use Rattle.ror_statement.specs.Statements.{statements_in}
use Rattle.ror_table.specs.Table.{DecisionTable}
use Rattle.ror_value.specs.Over.{IsLawfulIn}
use Rattle.ror_value.specs.Meaning.{Answers, IsConsistent, IsContradictory}
use Rattle.ror_confidence.specs.declared.fault.LevelsFault.{LevelsFault}
use Rattle.ror_confidence.specs.declared.fault.SpanCheckFault.{SpanCheckFault}
use Rattle.ror_confidence.specs.declared.levels.Levels.{Levels}
use Rattle.ror_confidence.specs.declared.levels.TheConstants.{MOST_LEVELS}
use Rattle.ror_confidence.specs.declared.read.TheConstants.{MOST_LEVELS_BYTES}
use Rattle.ror_confidence.specs.declared.span.Span.{Span}
use Rattle.ror_confidence.specs.Levels.{level_lists}
use Rattle.ror_confidence.specs.Spans.{HoldsAllOf, AreLevelLists, IsSpan}
use Rattle.ror_confidence.specs.Proof.{IsProvedSpan}
use Rattle.ror_confidence.specs.Faults.{FailsSpan}
use Rattle.ror_confidence.specs.Grammar.{IsFirstLevelsFault, IsLevelsText}
use Rattle.ror_confidence.specs.Reading.{levels_of}

-- What more statements leave. Where the greater list is not contradictory the smaller is not; the necessary preference that
-- holds over the smaller holds over the greater, and the possible one that holds over the greater holds over the smaller.
pub record IsNested (t : DecisionTable) (greater smaller : List Statement) : Type 0 where
  pub consistent : IsConsistent t greater → IsConsistent t smaller
  pub contradictory : IsContradictory t smaller → IsContradictory t greater
  pub necessary : (a b : ℕ) → IsConsistent t greater → Answers t smaller (Necessary a b) Yes
      → Answers t greater (Necessary a b) Yes
  pub possible : (a b : ℕ) → Answers t greater (Possible a b) Yes
      → Answers t smaller (Possible a b) Yes

abbrev pub ListsAreNested : Type 0
ListsAreNested = (t : DecisionTable) (greater smaller : List Statement) → HoldsAllOf greater smaller
    → IsNested t greater smaller

-- the lists of levels are lawful where all statements are, and each holds those before it
abbrev pub LevelsAreNested : Type 0
LevelsAreNested = (t : DecisionTable) (standing : List Numbered) (levels : Levels)
    → IsLawfulIn t (statements_in standing) → AreLevelLists t (level_lists standing levels)

-- a pair has one span
abbrev pub OneSpan : Type 0
OneSpan = (t : DecisionTable) (lists : List (List Statement)) (a b : ℕ) (c k p d l q : ℕ)
    → IsSpan t lists a b c k p → IsSpan t lists a b d l q → (c ≡ d) × (k ≡ l) × (p ≡ q)

-- a span that is proved is that of the pair over all compatible functions, at every level
abbrev pub ProvedSpansAreTrue : Type 0
ProvedSpansAreTrue = (t : DecisionTable) (lists : List (List Statement)) (a b : ℕ) (x : Span)
    → AreLevelLists t lists → a < length t.alternatives → b < length t.alternatives
    → IsProvedSpan t lists a b x → IsSpan t lists a b x.contradictory x.necessary x.possible

-- no test fails of a span that is proved
abbrev pub ProvedSpanPassesEachTest : Type 0
ProvedSpanPassesEachTest = (t : DecisionTable) (lists : List (List Statement)) (a b : ℕ) (x : Span)
    (fault : SpanCheckFault) → IsProvedSpan t lists a b x → FailsSpan t lists a b x fault → ⊥

-- a file of levels is read exactly where it is in the grammar, and as the levels that its lines give
abbrev pub LevelsAreTheGrammar : Type 0
LevelsAreTheGrammar = (standing : List Numbered) (bytes : List ℕ) (levels : Levels)
    → (levels_of standing bytes ≡ Ok levels) ↔ IsLevelsText standing bytes levels

-- the fault that is given is the first, and the first is given
abbrev pub LevelsFaultsAreFirst : Type 0
LevelsFaultsAreFirst = (standing : List Numbered) (bytes : List ℕ) (fault : LevelsFault)
    → (levels_of standing bytes ≡ Err fault) ↔ IsFirstLevelsFault standing bytes fault

-- what the limits of levels are
abbrev pub LimitsAre : Type 0
LimitsAre = (MOST_LEVELS ≡ 9) × (MOST_LEVELS_BYTES ≡ 1048576)
