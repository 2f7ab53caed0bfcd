-- The two ends of a pair or an interval.
use Rattle.std.specs.Prelude.{ℕ, Bool, true, false, ◌||◌, List, Option, Some, None, find, Result, Ok}
use Rattle.ror_text.specs.Reading.{◌>>=◌}
use Rattle.ror_elements.specs.Tree.{Tree}
use Rattle.ror_xmcda.specs.Nodes.{is_named, inside, first_named}

-- the first element of each of two names, and whether the second stands before the first
pub record Ends : Type 0 where
  pub first : Tree
  pub second : Tree
  pub turned : Bool

abbrev pub is_either : List ℕ → List ℕ → Tree → Bool
is_either name other t = is_named name t || is_named other t

abbrev pub has_name : List ℕ → Option Tree → Bool
has_name name None = false
has_name name (Some t) = is_named name t

-- the first element that has one of the two names has the other one
unfoldable pub is_turned : List ℕ → List ℕ → Tree → Bool
is_turned name other t = has_name other (find (is_either name other) (inside t))

abbrev pub ends_by : Option Tree → Option Tree → Bool → Option Ends
ends_by (Some first) (Some second) turned = Some (record { first = first; second = second; turned = turned })
ends_by (Some first) None turned = None
ends_by None second turned = None

unfoldable pub ends_of : List ℕ → List ℕ → Tree → Option Ends
ends_of name other t = ends_by (first_named name t) (first_named other t) (is_turned name other t)

-- what is read of both ends, or the fault of the one that stands first
abbrev pub both : {A F : Type 0} → Bool → Result A F → Result A F → Result (A × A) F
both false first second = first >>= λ x. second >>= λ y. Ok (x, y)
both true first second = second >>= λ y. first >>= λ x. Ok (x, y)
