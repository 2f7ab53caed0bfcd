use Rattle.std.proofs.Common.{ℕ, ◌+◌, ◌<◌, get_or}
use Rattle.ror_statement.specs.Statements.{numbers_in}
use Rattle.ror_made.proofs.lawful.are_rising.Given as goal

abbrev pub invariant-loop-place : goal.invariant-loop-place
invariant-loop-place l = (k : ℕ) → k + 1 < l.place → get_or (numbers_in l.standing) k 0 < get_or (numbers_in l.standing) (k + 1) 0
