-- The ids that names get: a name that can be an id is its own.
use Rattle.std.specs.Prelude.{ℕ, List, ◌++◌, map, codes, decimal, if◌then◌else◌}
use Rattle.ror_text.specs.Ids.{is_id}
use Rattle.ror_text.specs.Lines.{is_control}

-- a low line stands for a blank and for any other byte that no id may have
abbrev pub tidy_byte : ℕ → ℕ
tidy_byte byte = if is_control byte then 95 else byte

abbrev pub tidy : List ℕ → List ℕ
tidy name = map tidy_byte name

-- where that is still no id, for instance since it is too long, the word and the number are
unfoldable pub id_for : List ℕ → ℕ → List ℕ → List ℕ
id_for word number name = if is_id (tidy name) then tidy name else word ++ decimal number

abbrev pub column_id : ℕ → List ℕ → List ℕ
column_id column name = id_for (codes "column") column name

abbrev pub row_id : ℕ → List ℕ → List ℕ
row_id row name = id_for (codes "row") row name
