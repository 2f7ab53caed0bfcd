-- What stands behind a line that was written.
use Rattle.std.proofs.Common.{ℕ, zero, suc, List, [], ◌∷◌, Option, Result, Ok, Err, take}
use Rattle.std.specs.Prelude.{OnOk, OnErr}
use Rattle.ror_io.specs.Writing.{Grew, GrewShort}
use Rattle.ror_show_advice.specs.Apart.{StandsApart}
use Rattle.ror_show_run.specs.Saying.{GrowsApart}

-- a front of what stands apart does
front_apart : (n : ℕ) (bytes : List ℕ) → StandsApart bytes → StandsApart (take n bytes)
front_apart zero bytes apart = tt
front_apart (suc n) [] apart = tt
front_apart (suc n) (byte ∷ bytes) apart = apart

pub grown : {A E : Type 0} (result : Result A E) (before now : Option (List ℕ)) (bytes : List ℕ) → StandsApart bytes → OnOk result (Grew before now bytes) → OnErr result (GrewShort before now bytes) → GrowsApart before now
grown (Ok x) before now bytes apart all short = (bytes, apart, all)
grown (Err e) before now bytes apart all short = (take short.0 bytes, front_apart short.0 bytes apart, short.2)
