-- Laws of margins, of most discriminating functions, of the tests of an optimum and of the answers.
use Rattle.std.specs.Prelude.{◌≡◌, ◌≢◌, ◌↔◌, ℕ, ◌<◌, List, [], length, Result, Ok, Err, ℤ, ◌*ℤ◌, ◌≤ℤ◌}
use Rattle.std.specs.List.{AllByRecursion}
use Rattle.ror_integers.specs.Vectors.{dots, entry}
use Rattle.ror_statement.specs.declared.statement.Statement.{Statement}
use Rattle.ror_table.specs.Table.{DecisionTable, IsTable}
use Rattle.ror_table.specs.Blocks.{tops}
use Rattle.ror_text.specs.FirstFault.{IsFirst}
use Rattle.ror_system.specs.System.{LinearSystem}
use Rattle.ror_system.specs.declared.accept.Multipliers.{Multipliers}
use Rattle.ror_value.specs.Over.{IsLawfulIn}
use Rattle.ror_value.specs.Value.{ideal_value}
use Rattle.ror_value.specs.Meaning.{IsConsistent, IsContradictory}
use Rattle.ror_check.specs.Proof.{base_system}
use Rattle.ror_pivot.specs.declared.optimum.Optimum.{Optimum}
use Rattle.ror_pivot.specs.Optimality.{strict_rows, least_value, total_by, IsAcceptedOptimum}
use Rattle.ror_discriminate.specs.Margin.{strict_comparisons, margins, least_margin, IsMostDiscriminating}
use Rattle.ror_discriminate.specs.Faults.{FailsOptimal, IsEarlierOptimalFault}
use Rattle.ror_discriminate.specs.Discriminating.{IsDiscriminated, HasNoWideNote, HasNoClimbNote}
use Rattle.ror_discriminate.specs.declared.fault.OptimalFault.{OptimalFault}
use Rattle.ror_discriminate.specs.declared.fault.DiscriminateFault.{DiscriminateFault}
use Rattle.ror_discriminate.specs.declared.fault.DiscriminateFault.TheVariants as faults

-- m is one of the numbers, and none is below it
pub record IsLeast (m : ℤ) (xs : List ℤ) : Type 0 where
  pub place : ℕ
  pub within : place < length xs
  pub there : entry xs place ≡ m
  pub not_above : AllByRecursion (λ x. m ≤ℤ x) xs

-- where a list says something strictly, the least margin of a function is one of its margins, and none is below it
abbrev pub LeastMarginIsLeast : Type 0
LeastMarginIsLeast = (t : DecisionTable) (list : List Statement) (w : List ℤ)
    → strict_comparisons list ≢ [] → IsLeast (least_margin t list w) (margins t list w)

-- At numbers for the columns, the strict rows of a list's system but that of ones come to the margins, in order, and the least
-- of them to the least margin; what the columns count comes to the ideal value. There are no such rows exactly where the list
-- says nothing strictly.
pub record RowsAreMargins : Type 0 where
  pub rows : (t : DecisionTable) (list : List Statement) (w : List ℤ)
      → IsLawfulIn t list → dots (strict_rows (base_system t list)) w ≡ margins t list w
  pub least : (t : DecisionTable) (list : List Statement) (w : List ℤ)
      → IsLawfulIn t list → least_value (base_system t list) w ≡ least_margin t list w
  pub total : (t : DecisionTable) (w : List ℤ) → total_by (tops t) w ≡ ideal_value t w
  pub none : (t : DecisionTable) (list : List Statement)
      → (strict_rows (base_system t list) ≡ []) ↔ (strict_comparisons list ≡ [])

-- the solution of an accepted optimum of a list's system is a most discriminating function
abbrev pub ProvedOptimaAreBest : Type 0
ProvedOptimaAreBest = (t : DecisionTable) (list : List Statement) (x : Optimum)
    → IsTable t → IsLawfulIn t list → IsAcceptedOptimum (base_system t list) (tops t) x
    → IsMostDiscriminating t list x.solution.steps

-- two most discriminating functions have the same least margin, normalised; the functions may differ
abbrev pub OneGreatestMargin : Type 0
OneGreatestMargin = (t : DecisionTable) (list : List Statement) (w v : List ℤ)
    → IsMostDiscriminating t list w → IsMostDiscriminating t list v
    → least_margin t list w *ℤ ideal_value t v ≡ least_margin t list v *ℤ ideal_value t w

-- no test fails of an optimum that is accepted
abbrev pub AcceptedPassesEachTest : Type 0
AcceptedPassesEachTest = (t : DecisionTable) (list : List Statement) (x : Optimum) (fault : OptimalFault)
    → IsAcceptedOptimum (base_system t list) (tops t) x
    → FailsOptimal (base_system t list) (tops t) x fault → ⊥

-- an optimum has no two first faults
abbrev pub OneFirstFault : Type 0
OneFirstFault = (s : LinearSystem) (tops : List ℤ) (x : Optimum) (f g : OptimalFault)
    → IsFirst (FailsOptimal s tops x) IsEarlierOptimalFault f
    → IsFirst (FailsOptimal s tops x) IsEarlierOptimalFault g → f ≡ g

-- The answers that a list may have, want of memory apart: where it says nothing strictly, just that. Otherwise, where no number
-- on the cold path of its system is too wide, a contradiction exactly where it is contradictory; and where it is consistent and
-- no number on the climbing path is too wide either, an optimum.
pub record AnswersAreDue : Type 0 where
  pub nothing_strict : (most : ℕ) (t : DecisionTable) (list : List Statement)
      (answer : Result Optimum DiscriminateFault)
      → IsDiscriminated most t list answer → answer ≢ Err faults.Memory
      → strict_comparisons list ≡ [] → answer ≡ Err faults.NoStrictRow
  pub contradictory : (most : ℕ) (t : DecisionTable) (list : List Statement)
      (answer : Result Optimum DiscriminateFault)
      → IsDiscriminated most t list answer → answer ≢ Err faults.Memory
      → strict_comparisons list ≢ [] → IsContradictory t list
      → HasNoWideNote most (base_system t list)
      → (m : Multipliers) × (answer ≡ Err (faults.Contradictory m))
  pub consistent : (most : ℕ) (t : DecisionTable) (list : List Statement)
      (answer : Result Optimum DiscriminateFault)
      → IsDiscriminated most t list answer → answer ≢ Err faults.Memory
      → strict_comparisons list ≢ [] → IsConsistent t list
      → HasNoWideNote most (base_system t list) → HasNoClimbNote most t (base_system t list)
      → (x : Optimum) × (answer ≡ Ok x)
