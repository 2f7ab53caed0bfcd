-- A line of a desk, and what came of it.
use Rattle.std.specs.Prelude.{ℕ}
use Rattle.ror_report.specs.declared.block.Body.{Body}

-- the line's place among the session's lines, from 0, and the body of its block
pub record Turn : Type 0 where
  pub place : ℕ
  pub body : Body
