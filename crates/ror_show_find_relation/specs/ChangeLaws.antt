-- What holds of the changes from one relation to another, for all relations.
use Rattle.std.specs.Prelude.{◌≡◌, ◌≢◌, ◌↔◌, ◌⊎◌, ℕ, true, Some, Contains}
use Rattle.ror_show_find_relation.specs.Relations.{Square, holds}
use Rattle.ror_show_find_relation.specs.declared.change.Change.{Change}
use Rattle.ror_show_find_relation.specs.declared.change.Change.TheVariants as changes
use Rattle.ror_show_find_relation.specs.Changes.{change_of, changed_pairs}

abbrev pub ListedAreThose : Type 0
ListedAreThose = (before now : Square) (change : Change) (a b : ℕ)
    → Contains {X = ℕ × ℕ} (changed_pairs before now change) (a, b) ↔ (change_of before now a b ≡ Some change)

-- What held before is what stayed, was turned round or no longer holds; what holds now is what stayed, is new, or is what
-- another pair was turned round to.
pub record DifferenceOf (before now : Square) (a b : ℕ) : Type 0 where
  pub held : (holds before a b ≡ true) ↔ ((change_of before now a b ≡ Some changes.Stayed)
      ⊎ (change_of before now a b ≡ Some changes.TurnedRound) ⊎ (change_of before now a b ≡ Some changes.NoLonger))
  pub holds_now : (holds now a b ≡ true) ↔ ((change_of before now a b ≡ Some changes.Stayed)
      ⊎ (change_of before now a b ≡ Some changes.New) ⊎ (change_of before now b a ≡ Some changes.TurnedRound))

abbrev pub Difference : Type 0
Difference = (before now : Square) (a b : ℕ) → a ≢ b → DifferenceOf before now a b

abbrev pub NothingChanges : Type 0
NothingChanges = (r : Square) (a b : ℕ) (change : Change) → change_of r r a b ≡ Some change → change ≡ changes.Stayed

-- what became of a pair, seen backwards
abbrev pub backwards : Change → Change
backwards changes.NoLonger = changes.New
backwards changes.New = changes.NoLonger
backwards change = change

-- a pair that was turned round is turned back where it was turned to
pub record BackOf (before now : Square) (a b : ℕ) : Type 0 where
  pub turned : (change_of before now a b ≡ Some changes.TurnedRound) ↔ (change_of now before b a ≡ Some changes.TurnedRound)
  pub others : (change : Change) → change ≢ changes.TurnedRound
      → (change_of before now a b ≡ Some change) ↔ (change_of now before a b ≡ Some (backwards change))

abbrev pub ChangesBack : Type 0
ChangesBack = (before now : Square) (a b : ℕ) → BackOf before now a b
