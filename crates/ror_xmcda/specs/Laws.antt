-- The laws of inputs that the crate claims.
use Rattle.std.specs.Prelude.{◌≡◌, ◌≢◌, ◌↔◌, ℕ, ◌+◌, ◌<◌, Bool, true, false, List, ◌++◌, length, slice_index_or, Ok, Err, ℤ, pos, IsPermutation, AllPairs}
use Rattle.std.specs.List.{AllByRecursion, AllZip}
use Rattle.ror_statement.specs.declared.statement.Statement.{Statement}
use Rattle.ror_statement.specs.declared.statement.Statement.TheVariants.{Prefer, Class}
use Rattle.ror_table.specs.declared.fault.TableFault.{TableFault}
use Rattle.ror_table.specs.Table.{IsTable}
use Rattle.ror_value.specs.declared.input.Input.{Input}
use Rattle.ror_value.specs.Over.{IsLawfulIn}
use Rattle.ror_elements.specs.Tree.{Tree}
use Rattle.ror_xmcda.specs.Categories.{class_of}
use Rattle.ror_xmcda.specs.Content.{content}
use Rattle.ror_xmcda.specs.Input.{is_xmcda, plain_input, input_of}

-- what is read may be what a session starts from
abbrev pub InputsAreLawful : Type 0
InputsAreLawful = (bytes : List ℕ) (best_first : Bool) (input : Input)
    → input_of bytes best_first ≡ Ok input → IsLawfulIn input.table input.opening

-- a file that is not XMCDA is read as a plain table, whether the best class comes first or the worst
abbrev pub PlainTablesAreRead : Type 0
PlainTablesAreRead = (bytes : List ℕ) (best_first : Bool) → is_xmcda bytes ≡ false
    → input_of bytes best_first ≡ plain_input bytes

abbrev pub IsPreference : Statement → Type 0
IsPreference (Prefer a b) = Unit {0}
IsPreference _ = ⊥

abbrev pub IsAssignment : Statement → Type 0
IsAssignment (Class a lowest highest) = Unit {0}
IsAssignment _ = ⊥

-- the statements are some comparisons, and after them some assignments
pub record IsOrdered (opening : List Statement) : Type 0 where
  pub comparisons : List Statement
  pub assignments : List Statement
  pub is : opening ≡ comparisons ++ assignments
  pub compared : AllByRecursion IsPreference comparisons
  pub assigned : AllByRecursion IsAssignment assignments

abbrev pub OpeningsAreOrdered : Type 0
OpeningsAreOrdered = (best_first : Bool) (root : Tree) (input : Input)
    → content best_first root ≡ Ok input → IsOrdered input.opening

-- a class goes by the rank, wherever the category stands among the others
abbrev pub ClassesGoByRank : Type 0
ClassesGoByRank = (best_first : Bool) (ranks others : List ℤ) (j k : ℕ) → IsPermutation ranks others
    → slice_index_or ranks j (pos 0) ≡ slice_index_or others k (pos 0)
    → class_of best_first ranks j ≡ class_of best_first others k

-- the best first turns the classes of distinct ranks round
abbrev pub ClassesAreTurned : Type 0
ClassesAreTurned = (ranks : List ℤ) (k : ℕ) → AllPairs (λ x y. x ≢ y) ranks → k < length ranks
    → class_of true ranks k + class_of false ranks k ≡ length ranks + 1

-- and changes nothing in the table
abbrev pub TablesAreTheSame : Type 0
TablesAreTheSame = (bytes : List ℕ) (one other : Input)
    → input_of bytes true ≡ Ok one → input_of bytes false ≡ Ok other → one.table ≡ other.table

-- two statements that are the same, but for classes, which are counted from the other end of so many
abbrev pub IsTurned : ℕ → Statement → Statement → Type 0
IsTurned n (Prefer a b) (Prefer c d) = (a ≡ c) × (b ≡ d)
IsTurned n (Class a lowest highest) (Class b low high) =
    (a ≡ b) × (lowest + high ≡ n + 1) × (highest + low ≡ n + 1)
IsTurned n _ _ = ⊥

abbrev pub OpeningsAreTurned : Type 0
OpeningsAreTurned = (bytes : List ℕ) (one other : Input)
    → input_of bytes true ≡ Ok one → input_of bytes false ≡ Ok other
    → AllZip (IsTurned one.table.classes) one.opening other.opening

-- nor is any fault changed
abbrev pub FaultsAreTheSame : Type 0
FaultsAreTheSame = (bytes : List ℕ) (fault : TableFault)
    → (input_of bytes true ≡ Err fault) ↔ (input_of bytes false ≡ Err fault)

-- what is read has a table within the limits
abbrev pub InputsHaveTables : Type 0
InputsHaveTables = (bytes : List ℕ) (best_first : Bool) (input : Input)
    → input_of bytes best_first ≡ Ok input → IsTable input.table
