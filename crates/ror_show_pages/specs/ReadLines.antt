-- Which lines of a report pages are of.
use Rattle.std.specs.Prelude.{◌≡◌, ◌≤◌, ◌+◌, ℕ, List, [], ◌∷◌, Some, slice_get}
use Rattle.std.specs.List.{AllByRecursion}
use Rattle.ror_value.specs.declared.input.Input.{Input}
use Rattle.ror_session.specs.declared.session.Line.{Line}
use Rattle.ror_session.specs.declared.session.Session.{Session}
use Rattle.ror_bench.specs.declared.kept.Keep.{Keep}
use Rattle.ror_bench.specs.declared.kept.KeptLine.{KeptLine}
use Rattle.ror_show_pages.specs.Reads.{ReadsKept}

-- the kept line is the one at its place, and what came of it has its number
abbrev pub IsLineOf : List Line → KeptLine → Type 0
IsLineOf lines x = (line : Line) × (slice_get lines x.place ≡ Some line) × (x.block.line ≡ line.number)

-- the places of kept lines rise
abbrev pub PlacesRiseFrom : ℕ → List KeptLine → Type 0
PlacesRiseFrom low [] = Unit {0}
PlacesRiseFrom low (x ∷ xs) = (low ≤ x.place) × PlacesRiseFrom (x.place + 1) xs

pub record AreLinesOf (lines : List Line) (kept : List KeptLine) : Type 0 where
  pub each : AllByRecursion (IsLineOf lines) kept
  pub rising : PlacesRiseFrom 0 kept

-- Of a report that is proved the kept lines are lines of its session, in their order, each once.
abbrev pub ReadsAreLines : Type 0
ReadsAreLines = (keep : List Keep) (i : Input) (s : Session) (bytes : List ℕ) (kept : List KeptLine)
    → ReadsKept keep i s bytes kept → AreLinesOf s.lines kept
