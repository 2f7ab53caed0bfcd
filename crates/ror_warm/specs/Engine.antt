-- Engines: which system is present, how many pivots were made, and what an engine may answer.
use Rattle.std.specs.Prelude.{ℕ, Option, Some, None, Result, Err}
use Rattle.ror_system.specs.System.{LinearSystem}
use Rattle.ror_pivot.specs.declared.note.Outcome.{Outcome}
use Rattle.ror_pivot.specs.declared.note.SolveFault.{SolveFault}
use Rattle.ror_pivot.specs.declared.note.SolveFault.TheVariants.{Wide, Memory}
use Rattle.ror_pivot.specs.Answers.{IsAccepted, IsNarrowOutcome, IsNoteWithin}
use Rattle.ror_pivot.specs.Notes.{IsWideNote}

-- An engine, by its present system and the pivots made so far. The present system is the one that was asked of last. At first,
-- and after want of memory, there is none.
pub record EngineView : Type 0 where
  pub present : Option LinearSystem
  pub pivots : ℕ

-- the certificate is accepted for its side of the system, and no number of it passes most
pub record IsFitting (most : ℕ) (s : LinearSystem) (outcome : Outcome) : Type 0 where
  pub accepted : IsAccepted s outcome
  pub narrow : IsNarrowOutcome most outcome

-- a number is too wide only where the system's path has this first one at this width, and its place lies in the tableau
abbrev pub IsFaultOf : ℕ → LinearSystem → SolveFault → Type 0
IsFaultOf most s (Wide note) = IsWideNote most s note.path note.place × IsNoteWithin s (Wide note)
IsFaultOf most s Memory = Unit {0}

-- the system that is present after an answer: the one that was asked of, and none where memory ran out
abbrev pub present_after : LinearSystem → Result Outcome SolveFault → Option LinearSystem
present_after s (Err Memory) = None
present_after s _ = Some s
