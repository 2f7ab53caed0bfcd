-- Which sessions may be put on levels, and what stands there when they are over.
use Rattle.std.specs.Prelude.{◌≡◌, ◌≢◌, ◌⊎◌, ℕ, max, List, [], ◌∷◌, ◌++◌, length}
use Rattle.std.specs.List.{AllByRecursion}
use Rattle.ror_statement.specs.declared.statement.Numbered.{Numbered}
use Rattle.ror_value.specs.declared.input.Input.{Input}
use Rattle.ror_session.specs.declared.session.Line.{Line}
use Rattle.ror_session.specs.declared.session.Session.{Session}
use Rattle.ror_bench.specs.Bench.{Workbench, bench_of}
use Rattle.ror_closing.specs.Closing.{IsUnsuited, IsClosingStanding}

-- the desk of the first line
abbrev pub first_desk : List Line → ℕ
first_desk [] = 0
first_desk (line ∷ lines) = line.desk

-- the line repairs, or is of another desk than this one
abbrev pub IsUnfitAt : ℕ → Line → Type 0
IsUnfitAt desk line = IsUnsuited line ⊎ (line.desk ≢ desk)

-- than the first line's
abbrev pub IsUnfit : List Line → Line → Type 0
IsUnfit lines line = IsUnfitAt (first_desk lines) line

abbrev pub AreFit : List Line → Type 0
AreFit lines = AllByRecursion (λ line. ¬ (IsUnfit lines line)) lines

-- this is the number of a line that is unfit, and none before it is
pub record IsFirstUnfit (lines : List Line) (number : ℕ) : Type 0 where
  pub before : List Line
  pub line : Line
  pub after : List Line
  pub split : lines ≡ before ++ line ∷ after
  pub fit_before : AllByRecursion (λ l. ¬ (IsUnfit lines l)) before
  pub unfit : IsUnfit lines line
  pub number_is : number ≡ line.number

-- a workbench over the input's table, with a desk also where the session names none
abbrev pub levels_bench : Input → Session → Workbench
levels_bench i s = bench_of i (max 1 (length s.desks))

-- what stands at the first line's desk when the session is over: the opening statements, where there is no line
abbrev pub IsStanding : Input → Session → List Numbered → Type 0
IsStanding i s list = IsClosingStanding (levels_bench i s) s.lines (first_desk s.lines) list
