-- What a write adds to the bytes that a sink tells.
use Rattle.std.specs.Prelude.{◌≡◌, ℕ, ◌<◌, Option, option_map, List, ◌++◌, length, take, map}
use Rattle.std.specs.List.{concat}
use Rattle.std.specs.Borrow.{Bor}

-- where told, the bytes written grew by exactly these, and they stay told or untold
abbrev pub Grew : Option (List ℕ) → Option (List ℕ) → List ℕ → Type 0
Grew before now bytes = now ≡ option_map (λ written. written ++ bytes) before

-- where told, the bytes written grew by a proper front of these
abbrev pub GrewShort : Option (List ℕ) → Option (List ℕ) → List ℕ → Type 0
GrewShort before now bytes = (k : ℕ) × (k < length bytes) × Grew before now (take k bytes)

-- the bytes of all the pieces, in order
abbrev pub joined : List (Bor (List ℕ)) → List ℕ
joined pieces = concat (map (λ (piece : Bor (List ℕ)). piece.now) pieces)
