-- From which level on, and up to which, something is concluded. All of it is told of the lists of the levels, in order, and of
-- all value functions that are compatible with them.
use Rattle.std.specs.Prelude.{◌≡◌, ℕ, zero, suc, ◌+◌, ◌-◌, ◌<◌, ◌≤◌, ◌⊎◌, List, length, slice_get, Some}
use Rattle.std.specs.List.{AllByRecursion}
use Rattle.ror_statement.specs.declared.statement.Statement.{Statement}
use Rattle.ror_statement.specs.declared.question.Question.{Question}
use Rattle.ror_statement.specs.declared.question.Question.TheVariants.{Necessary, Possible}
use Rattle.ror_statement.specs.declared.question.Conclusion.TheVariants.{Yes}
use Rattle.ror_table.specs.Table.{DecisionTable}
use Rattle.ror_value.specs.Over.{IsLawfulIn}
use Rattle.ror_value.specs.Meaning.{Answers, IsContradictory}
use Rattle.ror_confidence.specs.Levels.{list_of_level}

-- each statement of the smaller list is somewhere in the greater one
abbrev pub HoldsAllOf : List Statement → List Statement → Type 0
HoldsAllOf greater smaller = (k : ℕ) (s : Statement) → slice_get smaller k ≡ Some s
    → (j : ℕ) × (slice_get greater j ≡ Some s)

-- the lists of levels: each is lawful, and holds all statements of each one before it
pub record AreLevelLists (t : DecisionTable) (lists : List (List Statement)) : Type 0 where
  pub lawful : AllByRecursion (IsLawfulIn t) lists
  pub nested : (i j : ℕ) → 1 ≤ i → i ≤ j → j ≤ length lists
      → HoldsAllOf (list_of_level lists j) (list_of_level lists i)

-- the least of the levels from 1 to n at which this holds; one past them where it holds at none
pub record IsLeastLevel (P : ℕ → Type 0) (n level : ℕ) : Type 0 where
  pub from_first : 1 ≤ level
  pub to_last : level ≤ n + 1
  pub holds : level ≤ n → P level
  pub none_below : (i : ℕ) → 1 ≤ i → i < level → P i → ⊥

-- the number of the levels from 1 to n at which this holds
abbrev pub IsNumberOfLevels : (ℕ → Type 0) → ℕ → ℕ → Type 0
IsNumberOfLevels P zero count = count ≡ 0
IsNumberOfLevels P (suc n) count =
    ((before : ℕ) × (count ≡ suc before) × P (suc n) × IsNumberOfLevels P n before)
    ⊎ ((P (suc n) → ⊥) × IsNumberOfLevels P n count)

-- the statements of the level contradict each other
abbrev pub ContradictsAt : DecisionTable → List (List Statement) → ℕ → Type 0
ContradictsAt t lists level = IsContradictory t (list_of_level lists level)

-- the question's answer over the statements of the level is yes
abbrev pub IsYesAt : DecisionTable → List (List Statement) → Question → ℕ → Type 0
IsYesAt t lists q level = Answers t (list_of_level lists level) q Yes

-- From level c on the statements contradict each other; below it, from level k on, the first alternative is necessarily
-- preferred, and at p of the levels it possibly is.
pub record IsSpan (t : DecisionTable) (lists : List (List Statement)) (a b : ℕ)
    (c k p : ℕ) : Type 0 where
  pub contradictory : IsLeastLevel (ContradictsAt t lists) (length lists) c
  pub necessary : IsLeastLevel (IsYesAt t lists (Necessary a b)) (c - 1) k
  pub possible : IsNumberOfLevels (IsYesAt t lists (Possible a b)) (c - 1) p
