-- Where the line begins of which a fault speaks.
use Rattle.std.proofs.Common.{ℕ, ◌≤◌, arith}
use Rattle.ror_proof.specs.declared.read.ProofFault.{ProofFault}
use Rattle.ror_proof.specs.declared.read.ProofFault.TheVariants.{BadLine, BadNumber, Memory}
use Rattle.ror_proof.specs.Reading.{IsProofFaultWithin}

-- a later place is no less right
pub placed_on : (m n : ℕ) (e : ProofFault) → IsProofFaultWithin m e → m ≤ n → IsProofFaultWithin n e
placed_on m n (BadLine at) h le = omega arith
placed_on m n (BadNumber at) h le = omega arith
placed_on m n Memory h le = tt
