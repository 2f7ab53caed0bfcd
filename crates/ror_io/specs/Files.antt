-- The files that a shelf tells, by their names.
use Rattle.std.specs.Prelude.{◌≡◌, ℕ, Option, None, Some, List}
use Rattle.std.specs.Cmp.Lexicographic.{slice_cmp}
use Rattle.std.specs.Ordering.{nat_cmp}
use Rattle.std.specs.FinMap.{FinMap, empty, get, insert}

-- finitely many files: the bytes of each, by the bytes of its name
abbrev pub Files : Type 0
Files = FinMap (slice_cmp nat_cmp) (List ℕ)

-- no file at all
abbrev pub no_files : Files
no_files = empty

-- the bytes of the file of this name, if there is one
abbrev pub file : Files → List ℕ → Option (List ℕ)
file files name = get files name

-- the files once this one is put there, in the place of an earlier one of its name
abbrev pub with_file : Files → List ℕ → List ℕ → Files
with_file files name bytes = insert files name bytes

-- the map is told, and has the file of this name with these bytes
abbrev pub HasFile : Option Files → List ℕ → List ℕ → Type 0
HasFile None name bytes = ⊥
HasFile (Some files) name bytes = file files name ≡ Some bytes

-- the map is told, and has no file of this name
abbrev pub Lacks : Option Files → List ℕ → Type 0
Lacks None name = ⊥
Lacks (Some files) name = file files name ≡ None
