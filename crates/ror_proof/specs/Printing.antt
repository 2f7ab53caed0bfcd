-- Words as a printer adds them to a line.
use Rattle.std.specs.Prelude.{◌≡◌, ℕ, List, ◌∷◌, ◌++◌}
use Rattle.std.specs.List.{flat_map}

-- each word, with a space before it
abbrev pub spaced : List (List ℕ) → List ℕ
spaced words = flat_map (λ word. 32 ∷ word) words

-- what was there before stands in front of what is there now
pub record StandsInFront (before now : List ℕ) : Type 0 where
  pub added : List ℕ
  pub is : now ≡ before ++ added
