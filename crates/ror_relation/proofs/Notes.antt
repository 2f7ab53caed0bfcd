-- What is said of an outcome is so of its system, and the numbers of its note are small.
use Rattle.std.proofs.Common.{◌≡◌, ℕ, ◌<◌, ◌^◌, length, Result, Ok, Err, sym, ap, ◌∙◌, subst, arith}
use Rattle.std.specs.Prelude.{IfOk, IfErr}
use Rattle.std.specs.declared.alloc.AllocError.{AllocError}
use Rattle.std.proofs.lemmas.List.{length-map}
use Rattle.ror_text.proofs.Everywhere.{all-by}
use Rattle.ror_system.specs.System.{LinearSystem, IsWellFormed}
use Rattle.ror_pivot.specs.declared.note.Outcome.{Outcome}
use Rattle.ror_pivot.specs.declared.note.Outcome.TheVariants.{Feasible, Infeasible}
use Rattle.ror_pivot.specs.declared.note.Place.{Place}
use Rattle.ror_pivot.specs.declared.note.Place.TheVariants.{Start, Step, Denominator, RowSum, ColumnSum}
use Rattle.ror_pivot.specs.declared.note.SolveFault.{SolveFault}
use Rattle.ror_pivot.specs.declared.note.SolveFault.TheVariants.{Wide, Memory}
use Rattle.ror_pivot.specs.Answers.{IsAnswer, IsAccepted, IsNarrowOutcome, IsNoteWithin, IsPlaceWithin}
use Rattle.ror_pivot.specs.Counts.{AreCounted, raised_by}
use Rattle.ror_pivot.specs.Notes.{IsWideNote}
use Rattle.ror_pivot.specs.Tableau.{shape_of, right_side_column, objective_row}
use Rattle.ror_warm.specs.Engine.{IsFaultOf}
use Rattle.ror_relation.specs.declared.decision.Decision.{Decision}
use Rattle.ror_relation.specs.Wide.{IsPlaceBelow, IsNoteBelow}
use Rattle.ror_relation.specs.Decisions.{IsCountedFor, IsDecision, IsSaidOf}

-- a number is too wide only where the system's path has this first one, and it lies in the tableau
abbrev pub IsFault : ℕ → LinearSystem → SolveFault → Type 0
IsFault most s (Wide note) = IsWideNote most s note.path note.place
IsFault most s Memory = Unit {0}

decided : (most : ℕ) (s : LinearSystem) (r : Result Outcome SolveFault) (d : Decision) → IfOk r (IsAccepted s) → IfOk r (IsNarrowOutcome most) → IfErr r (IsFault most s) → IsSaidOf r d → IsDecision most s d
decided most s (Ok (Feasible x)) d accepted narrow fault said = subst (IsDecision most s) (sym said) (accepted, narrow)
decided most s (Ok (Infeasible m)) d accepted narrow fault said = subst (IsDecision most s) (sym said) (accepted, narrow)
decided most s (Err (Wide note)) d accepted narrow fault said = subst (IsDecision most s) (sym said.1) (rw (said.2, said.3) fault)
decided most s (Err Memory) d accepted narrow fault said = absurd said

place_below : (s : LinearSystem) (place : Place) → IsWellFormed s → IsPlaceWithin (shape_of s) place → IsPlaceBelow (2 ^ 32) place
place_below s (Start i j) form within = let h = form.columns_limit in let k = form.rows_limit in (omega (arith, h, k, within.0), omega (arith, h, k, within.1))
place_below s (Step i j) form within = let h = form.columns_limit in let k = form.rows_limit in (omega (arith, h, k, within.0), omega (arith, h, k, within.1))
place_below s (Denominator i) form within = let k = form.rows_limit in omega (arith, k, within)
place_below s (RowSum i) form within = let k = form.rows_limit in omega (arith, k, within)
place_below s (ColumnSum j) form within = let h = form.columns_limit in omega (arith, h, within)

note_below : (s : LinearSystem) (fault : SolveFault) → IsWellFormed s → IsNoteWithin s fault → IsNoteBelow (2 ^ 32) fault
note_below s (Wide note) form within =
    let h = form.columns_limit in
    let k = form.rows_limit in
    (all-by (λ p. (p.0 < right_side_column (shape_of s)) × (p.1 < objective_row (shape_of s))) (λ p. (p.0 < 2 ^ 32) × (p.1 < 2 ^ 32)) note.path (λ p inside. (omega (arith, h, inside.0), omega (arith, k, inside.1))) within.0, place_below s note.place form within.1)
note_below s Memory form within = tt

-- ---- what is decided by itself, and what is decided by an engine

pub decided_by : (most : ℕ) (s : LinearSystem) (r : Result Outcome SolveFault) (d : Result Decision AllocError) → IfOk r (IsAccepted s) → IfOk r (IsNarrowOutcome most) → IfErr r (IsFault most s) → IfOk d (IsSaidOf r) → IfOk d (IsDecision most s)
decided_by most s r (Ok d) accepted narrow fault said = decided most s r d accepted narrow fault said
decided_by most s r (Err e) accepted narrow fault said = tt

counted : (s : LinearSystem) (r : Result Outcome SolveFault) (d : Decision) (before now : ℕ) → AreCounted s r before now → IsSaidOf r d → IsCountedFor s d before now
counted s (Ok (Feasible x)) d before now made said = subst (λ (d : Decision). IsCountedFor s d before now) (sym said) made
counted s (Ok (Infeasible m)) d before now made said = subst (λ (d : Decision). IsCountedFor s d before now) (sym said) made
counted s (Err (Wide note)) d before now made said =
    let many : length note.path ≡ length said.0.path = ap length (sym said.2) ∙ length-map said.0.path (λ p. (p.column, p.row)) in
    subst (λ (d : Decision). IsCountedFor s d before now) (sym said.1) (made ∙ ap (λ (n : ℕ). raised_by n before) many)
counted s (Err Memory) d before now made said = absurd said

pub counted_by : (s : LinearSystem) (r : Result Outcome SolveFault) (d : Result Decision AllocError) (before now : ℕ) → AreCounted s r before now → IfOk d (IsSaidOf r) → IfOk d (λ x. IsCountedFor s x before now)
counted_by s r (Ok d) before now made said = counted s r d before now made said
counted_by s r (Err e) before now made said = tt

pub below : (s : LinearSystem) (r : Result Outcome SolveFault) → IsWellFormed s → IfErr r (IsNoteWithin s) → IfErr r (IsNoteBelow (2 ^ 32))
below s (Ok x) form within = tt
below s (Err fault) form within = note_below s fault form within

pub fault_alone : (most : ℕ) (s : LinearSystem) (r : Result Outcome SolveFault) → IsAnswer most s r → IfErr r (IsFault most s)
fault_alone most s (Ok x) answer = tt
fault_alone most s (Err (Wide note)) answer = answer
fault_alone most s (Err Memory) answer = tt

pub fault_warm : (most : ℕ) (s : LinearSystem) (r : Result Outcome SolveFault) → IfErr r (IsFaultOf most s) → IfErr r (IsFault most s)
fault_warm most s (Ok x) fault = tt
fault_warm most s (Err (Wide note)) fault = fault.0
fault_warm most s (Err Memory) fault = tt

pub within_warm : (most : ℕ) (s : LinearSystem) (r : Result Outcome SolveFault) → IfErr r (IsFaultOf most s) → IfErr r (IsNoteWithin s)
within_warm most s (Ok x) fault = tt
within_warm most s (Err (Wide note)) fault = fault.1
within_warm most s (Err Memory) fault = tt
