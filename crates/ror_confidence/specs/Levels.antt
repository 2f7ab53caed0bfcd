-- Levels of confidence: which statements stand on which level, and the list of each level.
use Rattle.std.specs.Prelude.{◌≡◌, ℕ, ◌≤◌, ◌-◌, Bool, true, nat_le, nat_eq, ◌==◌, if◌then◌else◌, List, [], ◌∷◌, map, slice_index_or}
use Rattle.std.specs.List.{AllByRecursion, IsDistinct, filter, range_with_len}
use Rattle.std.specs.Set.{is_member}
use Rattle.ror_statement.specs.declared.statement.Numbered.{Numbered}
use Rattle.ror_statement.specs.declared.statement.Statement.{Statement}
use Rattle.ror_statement.specs.Statements.{numbers_in, statements_in}
use Rattle.ror_confidence.specs.declared.levels.Levels.{Levels}
use Rattle.ror_confidence.specs.declared.levels.TheConstants.{MOST_LEVELS}

-- the level on which the statement with this number is put; the first one where it is on none
abbrev pub level_in : List (ℕ × ℕ) → ℕ → ℕ
level_in [] number = 1
level_in (p ∷ put) number = if p.0 == number then p.1 else level_in put number

-- the statement stands on the level or on one before it
abbrev pub is_within : Levels → ℕ → Numbered → Bool
is_within levels level x = nat_le (level_in levels.put x.number) level

-- the statements of a level, in order: those that stand on it, and those of the levels before it
abbrev pub list_at : List Numbered → Levels → ℕ → List Statement
list_at standing levels level = statements_in (filter (is_within levels level) standing)

-- those of each level, from the first one on
abbrev pub level_lists : List Numbered → Levels → List (List Statement)
level_lists standing levels = map (list_at standing levels) (range_with_len 1 levels.count)

-- of the lists of all levels that of one
abbrev pub list_of_level : List (List Statement) → ℕ → List Statement
list_of_level lists level = slice_index_or lists (level - 1) []

-- There is a level at least and not more than may be; each statement that is put on a level stands, is put once, and is put on
-- one that there is.
pub record AreLevelsOf (standing : List Numbered) (levels : Levels) : Type 0 where
  pub some : 1 ≤ levels.count
  pub few : levels.count ≤ MOST_LEVELS
  pub each_stands : AllByRecursion (λ p. is_member nat_eq (numbers_in standing) p.0 ≡ true) levels.put
  pub once : IsDistinct nat_eq (map (λ p. p.0) levels.put)
  pub each_within : AllByRecursion (λ p. (1 ≤ p.1) × (p.1 ≤ levels.count)) levels.put
