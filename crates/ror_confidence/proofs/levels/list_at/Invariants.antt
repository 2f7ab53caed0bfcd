use Rattle.std.proofs.Common.{◌≡◌, ◌++◌, drop}
use Rattle.std.specs.List.{filter}
use Rattle.ror_statement.specs.Statements.{statements_in}
use Rattle.ror_confidence.specs.Levels.{is_within, list_at}
use Rattle.ror_confidence.proofs.levels.list_at.Given as goal

abbrev pub invariant-standing : goal.invariant-standing
invariant-standing l = l.list.items ++ statements_in (filter (is_within l.levels l.level) (drop l.x-index l.standing)) ≡ list_at l.standing l.levels l.level
