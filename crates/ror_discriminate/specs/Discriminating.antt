-- What is answered to a list whose most discriminating function is asked, at a width.
use Rattle.std.specs.Prelude.{◌≡◌, ◌≢◌, ℕ, List, [], Result, Ok, Err}
use Rattle.std.specs.List.{AllByRecursion}
use Rattle.ror_word.specs.Within.{IsWithin}
use Rattle.ror_statement.specs.declared.statement.Statement.{Statement}
use Rattle.ror_table.specs.Table.{DecisionTable}
use Rattle.ror_table.specs.Blocks.{tops}
use Rattle.ror_system.specs.System.{LinearSystem, IsSolvable}
use Rattle.ror_system.specs.declared.accept.Multipliers.{Multipliers}
use Rattle.ror_value.specs.Meaning.{IsConsistent}
use Rattle.ror_check.specs.Proof.{base_system}
use Rattle.ror_pivot.specs.declared.note.Place.{Place}
use Rattle.ror_pivot.specs.declared.note.WideNote.{WideNote}
use Rattle.ror_pivot.specs.declared.note.SolveFault.TheVariants as solving
use Rattle.ror_pivot.specs.declared.optimum.ClimbPlace.{ClimbPlace}
use Rattle.ror_pivot.specs.declared.optimum.ClimbNote.{ClimbNote}
use Rattle.ror_pivot.specs.declared.optimum.ClimbFault.TheVariants as climbing
use Rattle.ror_pivot.specs.declared.optimum.Optimum.{Optimum}
use Rattle.ror_pivot.specs.Notes.{IsWideNote}
use Rattle.ror_pivot.specs.Answers.{IsNoteWithin}
use Rattle.ror_pivot.specs.Optimality.{IsAcceptedOptimum, IsNarrowOptimum}
use Rattle.ror_pivot.specs.Climbing.{IsClimbNote, EndsOptimal, IsClimbNoteWithin}
use Rattle.ror_discriminate.specs.Contradictions.{IsShownContradictory}
use Rattle.ror_discriminate.specs.Margin.{strict_comparisons, IsMostDiscriminating}
use Rattle.ror_discriminate.specs.declared.fault.DiscriminateFault.{DiscriminateFault}
use Rattle.ror_discriminate.specs.declared.fault.DiscriminateFault.TheVariants as faults

-- The list says something strictly. Its optimum is what is read at the end of the climbing path of its system, none of whose
-- numbers passes most. It is accepted, none of its own numbers passes most, and its solution is a most discriminating function.
pub record IsFound (most : ℕ) (t : DecisionTable) (list : List Statement) (x : Optimum) : Type 0 where
  pub says_strictly : strict_comparisons list ≢ []
  pub ended : EndsOptimal most (base_system t list) (tops t) x
  pub accepted : IsAcceptedOptimum (base_system t list) (tops t) x
  pub narrow : IsNarrowOptimum most x
  pub best : IsMostDiscriminating t list x.solution.steps

-- The multipliers show that the list is contradictory, and none of them passes most.
pub record IsRefuted (most : ℕ) (t : DecisionTable) (list : List Statement) (m : Multipliers) : Type 0 where
  pub shown : IsShownContradictory t list m
  pub narrow_weak : AllByRecursion (IsWithin most) m.weak
  pub narrow_strict : AllByRecursion (IsWithin most) m.strict

-- The list says something strictly, and this is the first number on the cold path of its system that passes most.
pub record IsBaseWide (most : ℕ) (t : DecisionTable) (list : List Statement) (note : WideNote) : Type 0 where
  pub says_strictly : strict_comparisons list ≢ []
  pub noted : IsWideNote most (base_system t list) note.path note.place
  pub within : IsNoteWithin (base_system t list) (solving.Wide note)

-- The list says something strictly and is consistent, and this is the first number on the climbing path of its system that
-- passes most.
pub record IsClimbWide (most : ℕ) (t : DecisionTable) (list : List Statement) (note : ClimbNote) : Type 0 where
  pub says_strictly : strict_comparisons list ≢ []
  pub consistent : IsConsistent t list
  pub solvable : IsSolvable (base_system t list)
  pub noted : IsClimbNote most (base_system t list) (tops t) note.path note.place
  pub within : IsClimbNoteWithin (base_system t list) (climbing.Wide note)

-- the fault may come: only for what it says; want of memory says nothing
abbrev pub IsDueFault : ℕ → DecisionTable → List Statement → DiscriminateFault → Type 0
IsDueFault most t list faults.NoStrictRow = strict_comparisons list ≡ []
IsDueFault most t list (faults.Contradictory m) = IsRefuted most t list m
IsDueFault most t list (faults.BaseWide note) = IsBaseWide most t list note
IsDueFault most t list (faults.Wide note) = IsClimbWide most t list note
IsDueFault most t list faults.Memory = Unit {0}

-- the answer may come
abbrev pub IsDiscriminated : ℕ → DecisionTable → List Statement → Result Optimum DiscriminateFault → Type 0
IsDiscriminated most t list (Ok x) = IsFound most t list x
IsDiscriminated most t list (Err fault) = IsDueFault most t list fault

-- no number on the cold path of the system passes most, and none on its climbing path
abbrev pub HasNoWideNote : ℕ → LinearSystem → Type 0
HasNoWideNote most s = (path : List (ℕ × ℕ)) (place : Place) → IsWideNote most s path place → ⊥

abbrev pub HasNoClimbNote : ℕ → DecisionTable → LinearSystem → Type 0
HasNoClimbNote most t s =
    (path : List (ℕ × ℕ)) (place : ClimbPlace) → IsClimbNote most s (tops t) path place → ⊥
