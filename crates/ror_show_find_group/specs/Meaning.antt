-- What a cell of a group says of the judges who are heard, each with the value functions that agree with what the judge said.
use Rattle.std.specs.Prelude.{◌≡◌, ℕ, ◌⊎◌, List, [], ◌∷◌, ◌≤ℤ◌, if◌then◌else◌}
use Rattle.std.specs.List.{AllByRecursion}
use Rattle.ror_statement.specs.declared.statement.Statement.{Statement}
use Rattle.ror_table.specs.Table.{DecisionTable}
use Rattle.ror_value.specs.Value.{value}
use Rattle.ror_value.specs.Meaning.{IsConsistent}
use Rattle.ror_group.specs.Group.{SomeHas}
use Rattle.ror_show_ground.specs.Meaning.{ByEvery, BySome}
use Rattle.ror_show_find_relation.specs.Meaning.{IsAlwaysBetter, IsAlwaysEqual, IsOpen}
use Rattle.ror_show_find_group.specs.declared.judge.JudgeFound.{JudgeFound}
use Rattle.ror_show_find_group.specs.declared.cell.GroupCell.{GroupCell}
use Rattle.ror_show_find_group.specs.declared.cell.GroupCell.TheVariants as cells

-- what stands at the desks of the judges who are heard
abbrev pub heard : List JudgeFound → List (List Statement) → List (List Statement)
heard (judge ∷ judges) (list ∷ lists) = if judge.contradicts then heard judges lists else list ∷ heard judges lists
heard _ _ = []

-- some function agrees with the list, and by every one the first is worth at least as much as the second
pub record HasOver (t : DecisionTable) (a b : ℕ) (list : List Statement) : Type 0 where
  pub consistent : IsConsistent t list
  pub at_least : ByEvery t list (λ w. value t w b ≤ℤ value t w a)

-- by some function that agrees they are worth the same
abbrev pub HasTie : DecisionTable → ℕ → ℕ → List Statement → Type 0
HasTie t a b list = BySome t list (λ w. value t w a ≡ value t w b)

-- by every one the first is worth more; as much; and neither holds of every one
abbrev pub HasBetter : DecisionTable → ℕ → ℕ → List Statement → Type 0
HasBetter t a b list = IsAlwaysBetter t list a b

abbrev pub HasEqual : DecisionTable → ℕ → ℕ → List Statement → Type 0
HasEqual t a b list = IsAlwaysEqual t list a b

abbrev pub HasOpen : DecisionTable → ℕ → ℕ → List Statement → Type 0
HasOpen t a b list = IsOpen t list a b

-- the first is better by every function of one judge, and by none of another's
abbrev pub AreAgainst : DecisionTable → ℕ → ℕ → List (List Statement) → Type 0
AreAgainst t a b lists = SomeHas (HasBetter t a b) lists × SomeHas (HasOver t b a) lists

-- of all lists, or of some
abbrev pub GroupSays : DecisionTable → List (List Statement) → GroupCell → ℕ → ℕ → Type 0
GroupSays t lists cells.Itself a b = a ≡ b
GroupSays t lists cells.AlwaysBetter a b = AllByRecursion (HasBetter t a b) lists
GroupSays t lists cells.AtLeastAsGood a b = AllByRecursion (HasOver t a b) lists × SomeHas (HasTie t a b) lists
GroupSays t lists cells.AlwaysEqual a b = AllByRecursion (HasEqual t a b) lists
GroupSays t lists cells.Open a b = AllByRecursion (HasOpen t a b) lists
GroupSays t lists cells.AtMostAsGood a b = AllByRecursion (HasOver t b a) lists × SomeHas (HasTie t a b) lists
GroupSays t lists cells.NeverAsGood a b = AllByRecursion (HasBetter t b a) lists
GroupSays t lists cells.SomeOver a b = SomeHas (HasOver t a b) lists × SomeHas (HasOpen t a b) lists
    × AllByRecursion (λ list. HasOver t a b list ⊎ HasOpen t a b list) lists
GroupSays t lists cells.SomeUnder a b = SomeHas (HasOver t b a) lists × SomeHas (HasOpen t a b) lists
    × AllByRecursion (λ list. HasOver t b a list ⊎ HasOpen t a b list) lists
GroupSays t lists cells.BothWays a b = SomeHas (HasOver t a b) lists × SomeHas (HasOver t b a) lists
    × AllByRecursion (λ list. (HasBetter t a b list → ⊥) × (HasBetter t b a list → ⊥)) lists
GroupSays t lists cells.Differ a b = AreAgainst t a b lists ⊎ AreAgainst t b a lists
GroupSays t lists cells.Unknown a b = Unit {0}
