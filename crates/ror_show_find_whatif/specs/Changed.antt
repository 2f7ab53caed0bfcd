-- What stands if statements are withdrawn, and if one says its contrary; all others stand as they did.
use Rattle.std.specs.Prelude.{ℕ, ◌==◌, List, map, Option, Some, None, if◌then◌else◌}
use Rattle.ror_statement.specs.declared.statement.Numbered.{Numbered}
use Rattle.ror_statement.specs.declared.statement.Statement.{Statement}
use Rattle.ror_statement.specs.declared.statement.Statement.TheVariants.{Prefer, AtLeast, Stronger, AsStrong}
use Rattle.ror_statement.specs.Statements.{statements_in}
use Rattle.ror_check.specs.Repair.{kept_of}

-- what is left where the statements with these numbers are withdrawn
abbrev pub left_of : List ℕ → List Numbered → List Statement
left_of ns list = statements_in (kept_of ns list)

-- The contrary of a statement, where that is a statement too: that the second is at least as much, where it says that the first is more, and
-- that the second is more, where it says that the first is at least as much. What says that two are equal, or assigns to classes, has none.
abbrev pub contrary_of : Statement → Option Statement
contrary_of (Prefer a b) = Some (AtLeast b a)
contrary_of (AtLeast a b) = Some (Prefer b a)
contrary_of (Stronger p q scope) = Some (AsStrong q p scope)
contrary_of (AsStrong p q scope) = Some (Stronger q p scope)
contrary_of _ = None

-- what a statement says, or this in place of it where it has the number
abbrev pub placed : ℕ → Statement → Numbered → Statement
placed n s x = if x.number == n then s else x.statement

-- what stands where this is said in place of the statement with the number
abbrev pub instead_of : ℕ → Statement → List Numbered → List Statement
instead_of n s list = map (placed n s) list
