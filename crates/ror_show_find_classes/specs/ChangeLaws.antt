-- What holds of the changes that are shown.
use Rattle.std.specs.Prelude.{◌≡◌, ◌≢◌, ◌↔◌, ℕ, ◌<◌, ◌≤◌, true, false, List, Contains, Some, slice_get}
use Rattle.ror_statement.specs.declared.statement.Statement.{Statement}
use Rattle.ror_table.specs.Table.{DecisionTable}
use Rattle.ror_report.specs.Text.{answers_of}
use Rattle.ror_bench.specs.declared.kept.KeptLine.{KeptLine}
use Rattle.ror_show_find_relation.specs.CellLaws.{AreTrueAnswers}
use Rattle.ror_show_ground.specs.Meaning.{BySome}
use Rattle.ror_show_find_classes.specs.declared.sign.Sign.TheVariants as signs
use Rattle.ror_show_find_classes.specs.declared.value.ClassTime.{ClassTime}
use Rattle.ror_show_find_classes.specs.Signs.{alternative_of, sign_of_class}
use Rattle.ror_show_find_classes.specs.Meaning.{MayBelong}
use Rattle.ror_show_find_classes.specs.Values.{interval_of}
use Rattle.ror_show_find_classes.specs.declared.change.Change.{Change}
use Rattle.ror_show_find_classes.specs.declared.change.Change.TheVariants.{Stayed, Narrowed, Widened, Moved, NotConcluded}
use Rattle.ror_show_find_classes.specs.Changes.{change_of}
use Rattle.ror_show_find_classes.specs.TimeTurns.{is_at, turns}

-- both are of one desk, the one before the other, and no time of that desk is between them
pub record IsTurn (times : List ClassTime) (before now : ℕ) : Type 0 where
  pub time : ClassTime
  pub there : slice_get times now ≡ Some time
  pub earlier : before < now
  pub of_desk : is_at times time.desk before ≡ true
  pub none_between : (k : ℕ) → before < k → k < now → is_at times time.desk k ≡ false

abbrev pub TurnsAreThose : Type 0
TurnsAreThose = (times : List ClassTime) (before now : ℕ)
    → Contains {X = ℕ × ℕ} (turns times) (before, now) ↔ IsTurn times before now

-- ---- what a change says

-- some value function that is compatible with the list lets the alternative belong to this class of the table
pub record IsPossible (t : DecisionTable) (list : List Statement) (a h : ℕ) : Type 0 where
  pub from : 1 ≤ h
  pub to : h ≤ t.classes
  pub some : BySome t list (MayBelong t list a h)

-- it lies between two classes that are possible, or is one of them
pub record IsBetween (t : DecisionTable) (list : List Statement) (a h : ℕ) : Type 0 where
  pub low : ℕ
  pub high : ℕ
  pub low_possible : IsPossible t list a low
  pub high_possible : IsPossible t list a high
  pub above : low ≤ h
  pub below : h ≤ high

-- each class that is possible by the first list lies between those that are by the second
abbrev pub AreAmong : DecisionTable → List Statement → List Statement → ℕ → Type 0
AreAmong t list other a = (h : ℕ) → IsPossible t list a h → IsBetween t other a h

-- from what stood before to what stands now
abbrev pub ChangeSays : DecisionTable → List Statement → List Statement → ℕ → Change → Type 0
ChangeSays t before now a Stayed = AreAmong t now before a × AreAmong t before now a
ChangeSays t before now a Narrowed = AreAmong t now before a × (AreAmong t before now a → ⊥)
ChangeSays t before now a Widened = (AreAmong t now before a → ⊥) × AreAmong t before now a
ChangeSays t before now a Moved = (AreAmong t now before a → ⊥) × (AreAmong t before now a → ⊥)
ChangeSays t before now a NotConcluded = Unit {0}

-- the answers are true, and they are on this alternative
pub record IsTrueOf (t : DecisionTable) (list : List Statement) (a : ℕ) (x : KeptLine) : Type 0 where
  pub truth : AreTrueAnswers t list (answers_of x.block.body)
  pub of : alternative_of (answers_of x.block.body) ≡ a

-- The same, they say of each class of the table whether it is possible for the alternative, and one is. So neither is anything unknown,
-- nor is there no function that agrees.
pub record IsKnown (t : DecisionTable) (list : List Statement) (a : ℕ) (x : KeptLine) : Type 0 where
  pub truth : AreTrueAnswers t list (answers_of x.block.body)
  pub of : alternative_of (answers_of x.block.body) ≡ a
  pub each : (h : ℕ) → 1 ≤ h → h ≤ t.classes → sign_of_class (answers_of x.block.body) h ≢ signs.Unknown
  pub one : (h : ℕ) × IsPossible t list a h

-- What is said of a change is so, and where the classes are known before and now something is said. So one that is called narrowed has a
-- class that was possible and isn't any more.
pub record ChangesAreTrue : Type 0 where
  pub says : (t : DecisionTable) (before now : List Statement) (a : ℕ) (x y : KeptLine)
      → IsTrueOf t before a x → IsTrueOf t now a y
      → ChangeSays t before now a (change_of (interval_of t.classes x) (interval_of t.classes y))
  pub compared : (t : DecisionTable) (before now : List Statement) (a : ℕ) (x y : KeptLine)
      → IsKnown t before a x → IsKnown t now a y → change_of (interval_of t.classes x) (interval_of t.classes y) ≢ NotConcluded
