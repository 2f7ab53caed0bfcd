-- Which desks are meant.
use Rattle.std.specs.Prelude.{ℕ, Bool, true, false, ◌&&◌, ◌||◌, ◌==◌, List, [], ◌∷◌, Option, Some, None}
use Rattle.std.specs.Str.{bytes_eq}

-- the word is the name with the sign of a desk before it
abbrev pub has_sign_before : List ℕ → List ℕ → Bool
has_sign_before [] name = false
has_sign_before (byte ∷ rest) name = byte == 64 && bytes_eq rest name

-- it is at the desk that is meant, where one is, with or without that sign
abbrev pub is_desk : Option (List ℕ) → List ℕ → Bool
is_desk None name = true
is_desk (Some word) name = bytes_eq word name || has_sign_before word name
