-- Words of a line, each behind a space.
use Rattle.std.specs.Prelude.{ℕ, List, ◌∷◌, decimal}

abbrev pub word : List ℕ → List ℕ
word w = 32 ∷ w

abbrev pub number : ℕ → List ℕ
number n = word (decimal n)
