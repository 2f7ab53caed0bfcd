-- What holds of the changes that are shown.
use Rattle.std.specs.Prelude.{◌≡◌, ◌≢◌, ◌↔◌, ℕ, ◌<◌, true, false, List, Contains}
use Rattle.ror_statement.specs.declared.statement.Statement.{Statement}
use Rattle.ror_table.specs.Table.{DecisionTable}
use Rattle.ror_value.specs.Laws.{IsNecessarilyPreferred}
use Rattle.ror_proof.specs.declared.answer.Answer.{Answer}
use Rattle.ror_show_find_relation.specs.declared.change.Change.{Change}
use Rattle.ror_show_find_relation.specs.declared.change.Change.TheVariants as changes
use Rattle.ror_show_find_relation.specs.Changes.{changed_pairs}
use Rattle.ror_show_find_relation.specs.Cells.{cell_at, cell_rows, is_over}
use Rattle.ror_show_find_relation.specs.CellLaws.{AreTrueAnswers}
use Rattle.ror_show_find_relation.specs.Pages.{known}

-- ---- which lines

-- ---- which pairs

-- by the cell of the one against the other it is known that it is at least as good by every function
abbrev pub IsOver : ℕ → List Answer → ℕ → ℕ → Type 0
IsOver n xs a b = is_over (cell_at n xs a b) ≡ true

abbrev pub IsNotOver : ℕ → List Answer → ℕ → ℕ → Type 0
IsNotOver n xs a b = is_over (cell_at n xs a b) ≡ false

-- it is over the other by these answers and not by those
abbrev pub IsOverAlone : ℕ → List Answer → List Answer → ℕ → ℕ → Type 0
IsOverAlone n xs ys a b = IsOver n xs a b × IsNotOver n ys a b

-- what a change says of a pair, by the answers before and now
abbrev pub IsChanged : Change → ℕ → List Answer → List Answer → ℕ → ℕ → Type 0
IsChanged changes.Stayed n xs ys a b = IsOver n xs a b × IsOver n ys a b
IsChanged changes.TurnedRound n xs ys a b = IsOverAlone n xs ys a b × IsOverAlone n ys xs b a
IsChanged changes.NoLonger n xs ys a b = IsOverAlone n xs ys a b × (IsOverAlone n ys xs b a → ⊥)
IsChanged changes.New n xs ys a b = IsOverAlone n ys xs a b × (IsOverAlone n xs ys b a → ⊥)

-- the pairs of a change are those of two different ones of n alternatives of which it says so
pub record IsListed (change : Change) (n : ℕ) (xs ys : List Answer) (a b : ℕ) : Type 0 where
  pub first : a < n
  pub second : b < n
  pub different : a ≢ b
  pub is : IsChanged change n xs ys a b

abbrev pub ListsAreTheDifference : Type 0
ListsAreTheDifference = (change : Change) (n : ℕ) (xs ys : List Answer) (a b : ℕ)
    → Contains {X = ℕ × ℕ} (changed_pairs (known (cell_rows n xs)) (known (cell_rows n ys)) change) (a, b)
    ↔ IsListed change n xs ys a b

-- ---- what is true of them

-- what a change says of all compatible value functions, before and now
abbrev pub IsTrueChange : Change → DecisionTable → List Statement → List Statement → ℕ → ℕ → Type 0
IsTrueChange changes.Stayed t before now a b = IsNecessarilyPreferred t before a b × IsNecessarilyPreferred t now a b
IsTrueChange changes.TurnedRound t before now a b = IsNecessarilyPreferred t before a b × IsNecessarilyPreferred t now b a
IsTrueChange changes.NoLonger t before now a b = IsNecessarilyPreferred t before a b
IsTrueChange changes.New t before now a b = IsNecessarilyPreferred t now a b

abbrev pub ListedIsTrue : Type 0
ListedIsTrue = (change : Change) (t : DecisionTable) (before now : List Statement) (n : ℕ) (xs ys : List Answer) (a b : ℕ)
    → AreTrueAnswers t before xs → AreTrueAnswers t now ys
    → Contains {X = ℕ × ℕ} (changed_pairs (known (cell_rows n xs)) (known (cell_rows n ys)) change) (a, b)
    → IsTrueChange change t before now a b
