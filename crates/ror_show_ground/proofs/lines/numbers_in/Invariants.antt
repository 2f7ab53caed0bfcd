use Rattle.std.proofs.Common.{◌≡◌, take}
use Rattle.ror_statement.specs.Statements.{numbers_in}
use Rattle.ror_show_ground.proofs.lines.numbers_in.Given as goal

abbrev pub invariant-loop-statement : goal.invariant-loop-statement
invariant-loop-statement l = l.numbers.items ≡ numbers_in (take l.statement-index l.list)
