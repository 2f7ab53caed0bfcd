-- What holds of the strict part, of arrows and of levels, for all relations or for those of a kind.
use Rattle.std.specs.Prelude.{◌≡◌, ◌↔◌, ◌⊎◌, ℕ, suc, ◌<◌, Bool, true, List, length, Option, Some, None, Contains}
use Rattle.ror_show_find_relation.specs.Relations.{Square, holds, equals, IsAbove, IsTransitive, IsAcyclic, Path}
use Rattle.ror_show_find_relation.specs.Arrows.{IsArrow, arrows}
use Rattle.ror_show_find_relation.specs.Levels.{AreLevels, level_at, ChainTo}

-- A relation is made of its strict and its symmetric part, which have nothing in common. The strict part of a transitive
-- relation is a strict order, and its paths are steps.
pub record PartsOf (r : Square) : Type 0 where
  pub both : (a b : ℕ) → (holds r a b ≡ true) ↔ (IsAbove r a b ⊎ (equals r a b ≡ true))
  pub apart : (a b : ℕ) → IsAbove r a b → equals r a b ≡ true → ⊥
  pub irreflexive : (a : ℕ) → IsAbove r a a → ⊥
  pub transitive : IsTransitive r → (a b c : ℕ) → IsAbove r a b → IsAbove r b c → IsAbove r a c
  pub paths : IsTransitive r → (a b : ℕ) → Path (IsAbove r) a b → IsAbove r a b
  pub acyclic : IsTransitive r → IsAcyclic r

abbrev pub Parts : Type 0
Parts = (r : Square) → PartsOf r

-- the arrows of the list are the arrows of the relation
abbrev pub ArrowsAreThose : Type 0
ArrowsAreThose = (r : Square) (a b : ℕ) → Contains {X = ℕ × ℕ} (arrows r) (a, b) ↔ IsArrow r a b

-- Where no path comes back, the paths along arrows lead where those of the strict part lead. Of a transitive relation they are
-- the strict part, and of a reflexive one too the arrows and the symmetric part are all of it.
pub record ClosureOf (r : Square) : Type 0 where
  pub acyclic : IsAcyclic r → (a b : ℕ) → Path (IsArrow r) a b ↔ Path (IsAbove r) a b
  pub transitive : IsTransitive r → (a b : ℕ) → Path (IsArrow r) a b ↔ IsAbove r a b
  pub whole : IsTransitive r → (a b : ℕ)
      → (holds r a b ≡ true) ↔ (Path (IsArrow r) a b ⊎ (equals r a b ≡ true))

abbrev pub ArrowsClose : Type 0
ArrowsClose = (r : Square) → ClosureOf r

-- No arrow of a transitive relation follows from others: whatever pairs of the strict part have it for their closure, the
-- arrows are among them.
abbrev pub ArrowsAreNeeded : Type 0
ArrowsAreNeeded = (r : Square) (chosen : ℕ → ℕ → Bool) → IsTransitive r
    → ((a b : ℕ) → chosen a b ≡ true → IsAbove r a b)
    → ((a b : ℕ) → IsAbove r a b → Path (λ x y. chosen x y ≡ true) a b)
    → (a b : ℕ) → IsArrow r a b → chosen a b ≡ true

-- a relation has one list of levels
abbrev pub OneLevelling : Type 0
OneLevelling = (r : Square) (xs ys : List (Option ℕ)) → AreLevels r xs → AreLevels r ys → xs ≡ ys

-- An alternative's level is how many a longest strict chain has that ends with it. An alternative without a level ends strict
-- chains of any length.
pub record LongestChains (r : Square) (levels : List (Option ℕ)) : Type 0 where
  pub some : (a n : ℕ) → level_at levels a ≡ Some (suc n) → ChainTo r n a
  pub longest : (a k n : ℕ) → level_at levels a ≡ Some k → ChainTo r n a → n < k
  pub endless : (a n : ℕ) → a < length r → level_at levels a ≡ None → ChainTo r n a

abbrev pub LevelsAreLongestChains : Type 0
LevelsAreLongestChains = (r : Square) (levels : List (Option ℕ)) → AreLevels r levels → LongestChains r levels

-- each alternative of a relation without strict cycles has a level
abbrev pub AcyclicHaveLevels : Type 0
AcyclicHaveLevels = (r : Square) (levels : List (Option ℕ)) → IsAcyclic r → AreLevels r levels
    → (a : ℕ) → a < length r → level_at levels a ≡ None → ⊥
