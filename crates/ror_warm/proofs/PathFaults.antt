-- What is too wide on a system's path is what an engine may name.
use Rattle.std.proofs.Common.{ℕ, Err}
use Rattle.ror_system.specs.System.{LinearSystem}
use Rattle.ror_pivot.specs.declared.note.SolveFault.{SolveFault}
use Rattle.ror_pivot.specs.declared.note.SolveFault.TheVariants.{Wide, Memory}
use Rattle.ror_pivot.specs.Answers.{IsAnswer, IsNoteWithin}
use Rattle.ror_warm.specs.Engine.{IsFaultOf}

pub fault_of : (most : ℕ) (s : LinearSystem) (fault : SolveFault) → IsAnswer most s (Err fault) → IsNoteWithin s fault → IsFaultOf most s fault
fault_of most s (Wide note) answer within = (answer, within)
fault_of most s Memory answer within = tt
