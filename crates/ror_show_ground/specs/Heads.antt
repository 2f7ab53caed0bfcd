-- What stands above a page.
use Rattle.std.specs.Prelude.{ℕ, List}
use Rattle.ror_show_ground.specs.declared.heading.Heading.{Heading}

-- the number of the session's line, the name of its desk, the numbers of the statements that stand there, and how many answers
-- are proved, of how many
pub record Head : Type 0 where
  pub line : ℕ
  pub desk : List ℕ
  pub numbers : List ℕ
  pub proved : ℕ
  pub answers : ℕ

-- what a heading says
abbrev pub head_of : Heading → Head
head_of h = record { line = h.line; desk = h.desk.now; numbers = h.numbers.now; proved = h.proved; answers = h.answers }
