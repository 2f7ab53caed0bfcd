-- What holds where the texts say it.
use Rattle.std.proofs.Common.{[], ◌∷◌, Some, refl}
use Rattle.ror_show_find_proofs.proofs.MeaningProofs.{functions_are_meant}
use Rattle.ror_show_find_proofs.specs.SideLaws.{SidesAreMeant}

pub sides_are_meant : SidesAreMeant
sides_are_meant t list x w lawful sound is = functions_are_meant t list (x ∷ []) 0 (Some 0) x w lawful refl sound is
