-- Reading so many things one after another, as a loop does.
use Rattle.std.proofs.Common.{◌≡◌, ℕ, zero, suc, [], Result, Ok, refl}
use Rattle.ror_text.specs.Cursor.{Cursor}
use Rattle.ror_proof.specs.declared.read.ProofFault.{ProofFault}
use Rattle.ror_proof.proofs.Loops.{line_then}
use Rattle.ror_ranks_text.specs.Reading.{so_many}

module _ {A : Type 0} (read : Cursor → Result (A × Cursor) ProofFault) where
  pub many_step : (count : ℕ) (c : Cursor) → so_many read (suc count) c ≡ line_then (read c) (so_many read count)
  unfolding so_many
  many_step count c = refl

  pub no_many : (c : Cursor) → so_many read zero c ≡ Ok ([], c)
  unfolding so_many
  no_many c = refl
