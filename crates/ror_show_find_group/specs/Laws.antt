-- What is found of proved entries is true of the judges.
use Rattle.std.specs.Prelude.{◌≡◌, ◌≢◌, ◌↔◌, ℕ, ◌+◌, ◌<◌, true, false, List, length, slice_get, Some, Contains}
use Rattle.std.specs.List.{AllByRecursion}
use Rattle.ror_statement.specs.declared.statement.Statement.{Statement}
use Rattle.ror_value.specs.Meaning.{IsContradictory}
use Rattle.ror_group.specs.Group.{SomeHas}
use Rattle.ror_show_find_relation.specs.Relations.{holds, IsAbove, IsAcyclic}
use Rattle.ror_show_find_relation.specs.Rows.{pairs_among}
use Rattle.ror_show_find_relation.specs.Meaning.{Says}
use Rattle.ror_show_find_group.specs.declared.judge.JudgeFound.{JudgeFound}
use Rattle.ror_show_find_group.specs.declared.cell.GroupCell.TheVariants as cells
use Rattle.ror_show_find_group.specs.declared.counts.Stand.TheVariants.{Decided, Open, Partly, Differ, Unknown}
use Rattle.ror_show_find_group.specs.declared.page.GroupFound.{GroupFound}
use Rattle.ror_show_find_group.specs.Grounds.{GroupGround, IsJudgedGroup}
use Rattle.ror_show_find_group.specs.Judges.{cell_of_judge}
use Rattle.ror_show_find_group.specs.Cells.{group_cell_in}
use Rattle.ror_show_find_group.specs.Counts.{pairs_standing}
use Rattle.ror_show_find_group.specs.Pairs.{alone_of}
use Rattle.ror_show_find_group.specs.Findings.{known, IsGroupFound}
use Rattle.ror_show_find_relation.specs.Pages as page
use Rattle.ror_show_find_group.specs.Meaning.{heard, HasOver, GroupSays}

-- ---- a judge

-- the judge at a place, and what stands at the desk
pub record IsJudge (g : GroupGround) (found : GroupFound) (place : ℕ) (judge : JudgeFound) (list : List Statement) : Type 0 where
  pub judge_there : slice_get found.judges place ≡ Some judge
  pub list_there : slice_get g.lists place ≡ Some list

-- each cell of each judge says what is true of what the judge said
abbrev pub JudgesAreTrue : Type 0
JudgesAreTrue = (g : GroupGround) (found : GroupFound) (place : ℕ) (judge : JudgeFound) (list : List Statement) (a b : ℕ)
    → IsJudgedGroup g → IsGroupFound g found → IsJudge g found place judge list
    → a < length g.table.alternatives → b < length g.table.alternatives → Says g.table list (cell_of_judge judge a b) a b

-- no function agrees with what a judge said who isn't heard
abbrev pub ContradictionsAreTrue : Type 0
ContradictionsAreTrue = (g : GroupGround) (found : GroupFound) (place : ℕ) (judge : JudgeFound) (list : List Statement)
    → IsJudgedGroup g → IsGroupFound g found → IsJudge g found place judge list
    → judge.contradicts ≡ true → IsContradictory g.table list

-- ---- all judges who are heard

-- each cell says what is true of what they said
abbrev pub GroupCellsAreTrue : Type 0
GroupCellsAreTrue = (g : GroupGround) (found : GroupFound) (a b : ℕ) → IsJudgedGroup g → IsGroupFound g found
    → a < length g.table.alternatives → b < length g.table.alternatives
    → GroupSays g.table (heard found.judges g.lists) (group_cell_in found.rows a b) a b

-- What is known to hold for all, of which the page has levels and arrows, does for each of them by every function that agrees; what is
-- strictly so isn't so back for some one; and there is no strict cycle.
pub record AllOf (g : GroupGround) (found : GroupFound) : Type 0 where
  pub shown : page.known found.common.rows ≡ known found.rows
  pub sound : (a b : ℕ) → a ≢ b → holds (known found.rows) a b ≡ true
      → AllByRecursion (HasOver g.table a b) (heard found.judges g.lists)
  pub strict : (a b : ℕ) → IsAbove (known found.rows) a b
      → SomeHas (λ list. HasOver g.table b a list → ⊥) (heard found.judges g.lists)
  pub acyclic : IsAcyclic (known found.rows)

abbrev pub AllIsTrue : Type 0
AllIsTrue = (g : GroupGround) (found : GroupFound) → IsJudgedGroup g → IsGroupFound g found → AllOf g found

-- ---- the lists

-- each pair of different alternatives is counted in one of five ways
abbrev pub EachPairIsCounted : Type 0
EachPairIsCounted = (g : GroupGround) (found : GroupFound) → IsGroupFound g found
    → pairs_standing Decided found.rows (length g.table.alternatives) + pairs_standing Open found.rows (length g.table.alternatives)
    + pairs_standing Partly found.rows (length g.table.alternatives) + pairs_standing Differ found.rows (length g.table.alternatives)
    + pairs_standing Unknown found.rows (length g.table.alternatives) ≡ pairs_among (length g.table.alternatives)

-- a pair is listed where the judges differ on it
abbrev pub DifferingAreThose : Type 0
DifferingAreThose = (g : GroupGround) (found : GroupFound) (a b : ℕ) → IsGroupFound g found
    → Contains {X = ℕ × ℕ} found.differing (a, b)
    ↔ ((a < b) × (b < length g.table.alternatives) × (group_cell_in found.rows a b ≡ cells.Differ))

-- of a pair that is listed for a judge this judge has the first at least as good by every function, and no other one who is heard does
pub record IsAlone (g : GroupGround) (found : GroupFound) (place : ℕ) (list : List Statement) (a b : ℕ) : Type 0 where
  pub concludes : HasOver g.table a b list
  pub others : (other : ℕ) (judge : JudgeFound) (theirs : List Statement) → other ≢ place
      → IsJudge g found other judge theirs → judge.contradicts ≡ false → HasOver g.table a b theirs → ⊥

abbrev pub AloneIsTrue : Type 0
AloneIsTrue = (g : GroupGround) (found : GroupFound) (place : ℕ) (judge : JudgeFound) (list : List Statement) (a b : ℕ)
    → IsJudgedGroup g → IsGroupFound g found → IsJudge g found place judge list
    → Contains {X = ℕ × ℕ} (alone_of found.judges (length g.table.alternatives) judge) (a, b)
    → IsAlone g found place list a b
