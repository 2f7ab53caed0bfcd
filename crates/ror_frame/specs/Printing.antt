-- What a call that writes a text does to a sink.
use Rattle.std.specs.Prelude.{◌≡◌, ℕ, ◌≤◌, List, Option, Result, Ok, Err}
use Rattle.ror_io.specs.Counts.{Rose}
use Rattle.ror_io.specs.Writing.{Grew, GrewShort}

-- all of the text was written and no fault was counted, or a proper front of it and the count of faults rose
abbrev pub Prints : {A E : Type 0} → ℕ → ℕ → Option (List ℕ) → Option (List ℕ) → List ℕ
    → Result A E → Type 0
Prints before now old new text (Ok x) = (now ≡ before) × Grew old new text
Prints before now old new text (Err e) = (before ≤ now) × Rose before now × GrewShort old new text
