-- The levels of a relation: how many alternatives a longest strict chain has that ends with an alternative.
use Rattle.std.specs.Prelude.{◌≡◌, ℕ, zero, suc, ◌-◌, ◌<◌, ◌≤◌, List, length, Option, Some, None, slice_index_or}
use Rattle.ror_show_find_relation.specs.Relations.{Square, IsAbove}

-- an alternative's level, from 1 on, where it has one
abbrev pub level_at : List (Option ℕ) → ℕ → Option ℕ
level_at levels a = slice_index_or levels a None

-- it has a level before this one
pub record IsBefore (levels : List (Option ℕ)) (k c : ℕ) : Type 0 where
  pub level : ℕ
  pub at : level_at levels c ≡ Some level
  pub before : level < k

-- something above it has this level, or none
pub record HasAbove (r : Square) (levels : List (Option ℕ)) (a : ℕ) (level : Option ℕ) : Type 0 where
  pub upper : ℕ
  pub above : IsAbove r upper a
  pub at : level_at levels upper ≡ level

-- The alternative is in this level: all that is above it is in a level before, and where it isn't the first level, something
-- above it is in the one just before.
pub record IsInLevel (r : Square) (levels : List (Option ℕ)) (a k : ℕ) : Type 0 where
  pub first : 0 < k
  pub last : k ≤ length r
  pub under_all : (c : ℕ) → IsAbove r c a → IsBefore levels k c
  pub under_one : 1 < k → HasAbove r levels a (Some (k - 1))

-- Each alternative is in a level, or has something above it that is in none.
pub record AreLevels (r : Square) (levels : List (Option ℕ)) : Type 0 where
  pub each : length levels ≡ length r
  pub some : (a k : ℕ) → level_at levels a ≡ Some k → IsInLevel r levels a k
  pub none : (a : ℕ) → a < length r → level_at levels a ≡ None → HasAbove r levels a None

-- a strict chain of so many alternatives and one more, that ends with this one
abbrev pub ChainTo : Square → ℕ → ℕ → Type 0
ChainTo r zero a = a < length r
ChainTo r (suc n) a = (c : ℕ) × IsAbove r c a × ChainTo r n c
