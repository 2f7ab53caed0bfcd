-- What stands in an element.
use Rattle.std.specs.Prelude.{ℕ, Bool, List, [], ◌∷◌, Option, None, Some, filter, find}
use Rattle.std.specs.List.{flat_map}
use Rattle.std.specs.Str.{bytes_eq}
use Rattle.ror_elements.specs.Tree.{Tree, name_of}
pub use Rattle.ror_elements.specs.Tree.{id_of, text_of, line_of, inside}

abbrev pub is_named : List ℕ → Tree → Bool
is_named name t = bytes_eq (name_of t) name

-- those of a name directly inside an element
unfoldable pub named : List ℕ → Tree → List Tree
named name t = filter (is_named name) (inside t)

-- the first of these
unfoldable pub first_named : List ℕ → Tree → Option Tree
first_named name t = find (is_named name) (inside t)

-- the elements to which a path of names leads, in order of the document
abbrev pub at_path : List (List ℕ) → Tree → List Tree
at_path [] t = t ∷ []
at_path (name ∷ path) t = flat_map (at_path path) (named name t)

abbrev pub first_of : {A : Type 0} → List A → Option A
first_of [] = None
first_of (x ∷ xs) = Some x
