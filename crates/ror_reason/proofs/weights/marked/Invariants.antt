use Rattle.std.proofs.Common.{take}
use Rattle.ror_statement.specs.Statements.{numbers_in}
use Rattle.ror_statement.proofs.Sublists.{IsSublist}
use Rattle.ror_reason.proofs.weights.marked.Given as goal

abbrev pub invariant-loop-place : goal.invariant-loop-place
invariant-loop-place l = IsSublist l.numbers.items (numbers_in (take l.place l.list))
