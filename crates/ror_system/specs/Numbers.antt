-- How whole numbers are kept of which most are 0: those other than 0, each with its place.
use Rattle.std.specs.Prelude.{◌≡◌, ◌≢◌, ℕ, ◌+◌, ◌-◌, ◌<◌, ◌≤◌, List, [], ◌∷◌, ◌++◌, length, replicate, ℤ, pos}
use Rattle.ror_integers.specs.Vectors.{entry}

-- the numbers from one place up to another: these at their places, and 0 elsewhere
abbrev pub spread : ℕ → ℕ → List ℕ → List ℤ → List ℤ
spread from len [] values = replicate (len - from) (pos 0)
spread from len (place ∷ places) [] = replicate (len - from) (pos 0)
spread from len (place ∷ places) (value ∷ values) =
    replicate (place - from) (pos 0) ++ value ∷ spread (place + 1) len places values

-- the places rise between the two, and each has its number, which isn't 0
abbrev pub ArePlaced : ℕ → ℕ → List ℕ → List ℤ → Type 0
ArePlaced from len [] values = (from ≤ len) × (values ≡ [])
ArePlaced from len (place ∷ places) [] = ⊥
ArePlaced from len (place ∷ places) (value ∷ values) = (from ≤ place) × (value ≢ pos 0)
    × ArePlaced (place + 1) len places values

-- from one place on the numbers at these places alone may be other than 0
abbrev pub AreTheOthers : List ℤ → ℕ → List ℕ → Type 0
AreTheOthers xs from [] = (k : ℕ) → from ≤ k → entry xs k ≡ pos 0
AreTheOthers xs from (place ∷ places) = (from ≤ place) × (place < length xs)
    × ((k : ℕ) → from ≤ k → k < place → entry xs k ≡ pos 0) × AreTheOthers xs (place + 1) places
