-- Where advice stands.
use Rattle.std.specs.Prelude.{◌≡◌, ℕ, List, [], ◌∷◌}

-- it is nothing, or an empty line stands before it, so that it joins no line that was written
abbrev pub StandsApart : List ℕ → Type 0
StandsApart [] = Unit {0}
StandsApart (byte ∷ bytes) = byte ≡ 10
