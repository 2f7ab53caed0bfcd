-- What each step of the check of an optimum leaves to the next.
use Rattle.std.specs.Prelude.{◌≡◌, ◌≢◌, ℕ, ◌<◌, List, ◌++◌, length, ℤ, pos, ◌<ℤ◌, ◌⊎◌}
use Rattle.std.specs.List.{AllByRecursion}
use Rattle.ror_integers.specs.Vectors.{entry, NoneNegative, SomePositive}
use Rattle.ror_text.specs.FirstFault.{IsFirst}
use Rattle.ror_word.specs.Within.{IsWithin}
use Rattle.ror_system.specs.declared.reject.Reject.TheVariants as rejects
use Rattle.ror_system.specs.System.{LinearSystem, IsNarrow}
use Rattle.ror_system.specs.Acceptance.{IsAcceptedSolution, AreAcceptedMultipliers, FailsSolution, FailsMultipliers, IsEarlierTest}
use Rattle.ror_pivot.specs.declared.note.SolveFault.TheVariants as solving
use Rattle.ror_pivot.specs.Notes.{IsWideNote}
use Rattle.ror_pivot.specs.Answers.{IsNoteWithin}
use Rattle.ror_pivot.specs.Optimality.{least_value, total_by}
use Rattle.ror_pivot.specs.declared.optimum.Optimum.{Optimum}
use Rattle.ror_discriminate.specs.declared.fault.OptimalFault.{OptimalFault}
use Rattle.ror_discriminate.specs.declared.fault.OptimalFault.TheVariants as faults
use Rattle.ror_discriminate.specs.declared.fault.DiscriminateFault.{DiscriminateFault}
use Rattle.ror_discriminate.specs.declared.fault.DiscriminateFault.TheVariants as answers
use Rattle.ror_discriminate.specs.declared.margin.Margin.{Margin}
use Rattle.ror_discriminate.specs.Faults.{FailsOptimal}

-- the least value of the strict rows at these steps, and their total, which is above 0; both are at most 2^127 - 1
pub record IsMarginAt (s : LinearSystem) (tops steps : List ℤ) (m : Margin) : Type 0 where
  pub least_is : m.least ≡ least_value s steps
  pub total_is : m.total ≡ total_by tops steps
  pub positive : pos 0 <ℤ m.total
  pub least_within : IsNarrow m.least
  pub total_within : IsNarrow m.total

-- the steps pass their tests, and come to this margin
pub record IsMeasured (s : LinearSystem) (tops steps : List ℤ) (m : Margin) : Type 0 where
  pub accepted : IsAcceptedSolution s steps
  pub total_within : IsNarrow (total_by tops steps)
  pub margin : IsMarginAt s tops steps m

-- the steps are refused, each earlier test having been passed
abbrev pub RefusesSteps : LinearSystem → List ℤ → List ℤ → OptimalFault → Type 0
RefusesSteps s tops steps (faults.Solution r) = IsFirst (FailsSolution s steps) IsEarlierTest r
RefusesSteps s tops steps faults.Total =
    IsAcceptedSolution s steps × (IsNarrow (total_by tops steps) → ⊥)
RefusesSteps s tops steps _ = ⊥

-- one multiplier for each row, none below 0
pub record HaveForm (s : LinearSystem) (weak strict : List ℤ) : Type 0 where
  pub one_for_each_weak : length weak ≡ length s.weak
  pub one_for_each_strict : length strict ≡ length s.strict
  pub none_negative : NoneNegative (weak ++ strict)

-- the form of the multipliers is refused
abbrev pub RefusesForm : LinearSystem → List ℤ → List ℤ → OptimalFault → Type 0
RefusesForm s weak strict faults.Length =
    IsFirst (FailsMultipliers s weak strict) IsEarlierTest rejects.Length
RefusesForm s weak strict (faults.Negative k) =
    IsFirst (FailsMultipliers s weak strict) IsEarlierTest (rejects.Negative k)
RefusesForm s weak strict _ = ⊥

-- besides, that of the row of ones is 0, and some strict one above 0
pub record AreWeights (s : LinearSystem) (weak strict : List ℤ) : Type 0 where
  pub form : HaveForm s weak strict
  pub ones_row : entry strict 0 ≡ pos 0
  pub some_strict : SomePositive strict

-- the multipliers are refused, each earlier test of them having been passed
abbrev pub RefusesWeights : LinearSystem → List ℤ → List ℤ → OptimalFault → Type 0
RefusesWeights s weak strict faults.OnesRow = HaveForm s weak strict × (entry strict 0 ≢ pos 0)
RefusesWeights s weak strict faults.NoStrict =
    HaveForm s weak strict × (entry strict 0 ≡ pos 0) × (SomePositive strict → ⊥)
RefusesWeights s weak strict fault = RefusesForm s weak strict fault

-- none of the three tests of a column fails
pub record PassesColumn (s : LinearSystem) (tops : List ℤ) (x : Optimum) (j : ℕ) : Type 0 where
  pub scale : FailsOptimal s tops x (faults.ScaleWide j) → ⊥
  pub sum : FailsOptimal s tops x (faults.ColumnWide j) → ⊥
  pub inequality : FailsOptimal s tops x (faults.Column j) → ⊥

-- this is the first of the three that fails
abbrev pub RefusesColumn : LinearSystem → List ℤ → Optimum → ℕ → OptimalFault → Type 0
RefusesColumn s tops x j f =
    ((f ≡ faults.ScaleWide j) × FailsOptimal s tops x f)
    ⊎ ((f ≡ faults.ColumnWide j) × FailsOptimal s tops x f
    × (FailsOptimal s tops x (faults.ScaleWide j) → ⊥))
    ⊎ ((f ≡ faults.Column j) × FailsOptimal s tops x f
    × (FailsOptimal s tops x (faults.ScaleWide j) → ⊥)
    × (FailsOptimal s tops x (faults.ColumnWide j) → ⊥))

-- the strict rows, the solution and the multipliers pass their tests, and so do the columns below j
pub record PassesBelow (s : LinearSystem) (tops : List ℤ) (x : Optimum) (j : ℕ) : Type 0 where
  pub strict : FailsOptimal s tops x faults.NoStrictRow → ⊥
  pub solution : IsAcceptedSolution s x.solution.steps
  pub total_within : IsNarrow (total_by tops x.solution.steps)
  pub weights : AreWeights s x.multipliers.weak x.multipliers.strict
  pub columns : (k : ℕ) → k < j → PassesColumn s tops x k

-- the system of a list is refused at a width: it is not solvable, or a number on its cold path is too wide; or memory ran out
abbrev pub RefusesBase : ℕ → LinearSystem → DiscriminateFault → Type 0
RefusesBase most s (answers.Contradictory m) = AreAcceptedMultipliers s m.weak m.strict
    × AllByRecursion (IsWithin most) m.weak × AllByRecursion (IsWithin most) m.strict
RefusesBase most s (answers.BaseWide note) =
    IsWideNote most s note.path note.place × IsNoteWithin s (solving.Wide note)
RefusesBase most s answers.Memory = Unit {0}
RefusesBase most s _ = ⊥
