-- Which elements are kept.
use Rattle.std.specs.Prelude.{ℕ, Bool, ◌&&◌, ◌||◌, List, [], ◌∷◌, ◌++◌}
use Rattle.std.specs.List.{list_any}
use Rattle.std.specs.Str.{bytes_eq}
use Rattle.ror_elements.specs.declared.kept_elements.TheConstants.{KEPT}

-- a row with this parent and this child is that of the child with this local name of an element
-- with this path
abbrev pub is_row : List ℕ → List ℕ → List ℕ → List ℕ → Bool
is_row path name parent child = bytes_eq parent path && (bytes_eq child name || bytes_eq child (42 ∷ []))

-- some row is
unfoldable pub is_kept : List ℕ → List ℕ → Bool
is_kept path name = list_any (λ row. is_row path name row.0.now row.1.now) KEPT

-- the path of a child: a `/` and its local name behind its parent's path
abbrev pub child_path : List ℕ → List ℕ → List ℕ
child_path path name = path ++ 47 ∷ name
