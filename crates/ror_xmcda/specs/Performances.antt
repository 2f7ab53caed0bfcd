-- The performances that are given.
use Rattle.std.specs.Prelude.{ℕ, Bool, ◌&&◌, ◌==◌, All, List, [], ◌∷◌, ◌++◌, codes, Option, Some, None, is_some, Result, Ok}
use Rattle.std.specs.Map.{lookup}
use Rattle.ror_text.specs.Reading.{◌>>=◌, refuse, need, read_all}
use Rattle.ror_table.specs.declared.amount.Amount.{Amount}
use Rattle.ror_table.specs.declared.fault.TableFault.{TableFault}
use Rattle.ror_table.specs.declared.fault.TableKind.TheVariants.{MissingPerformance, RepeatedPerformance}
use Rattle.ror_table.specs.Amounts.{IsAmount}
use Rattle.ror_table.specs.Plain.{at_line}
use Rattle.ror_elements.specs.Tree.{Tree}
use Rattle.ror_xmcda.specs.declared.roster.Roster.{Roster}
use Rattle.ror_xmcda.specs.Nodes.{line_of, inside, named, first_named, at_path, first_of}
use Rattle.ror_xmcda.specs.Listing.{standing_in}
use Rattle.ror_xmcda.specs.Numbers.{number_of}

-- the place of an alternative and that of a criterion
abbrev pub Place : Type 0
Place = ℕ × ℕ

-- the performances that are given, each at its place, in order of the document
abbrev pub Given : Type 0
Given = List (Place × Amount)

abbrev pub is_at : Place → Place → Bool
is_at place other = (place.0 == other.0) && (place.1 == other.1)

-- the performance at a place, if it is given
unfoldable pub given_at : Given → Place → Option Amount
given_at given place = lookup (is_at place) given

abbrev pub first_inside : Option Tree → Option Tree
first_inside None = None
first_inside (Some t) = first_of (inside t)

-- what is first in the value of a performance
unfoldable pub value_of : Tree → Result Tree TableFault
value_of t =
    need (at_line (line_of t) MissingPerformance) (first_inside (first_named (codes "value") t))

unfoldable pub kept_performance : Given → Place → Tree → Result Given TableFault
kept_performance given place t = do
  value ← value_of t
  number ← number_of value
  _ ← refuse (at_line (line_of t) RepeatedPerformance) (is_some (given_at given place))
  Ok (given ++ (place, number) ∷ [])

-- a performance of what is left out is passed over
abbrev pub performance_at : Given → Option ℕ → Option ℕ → Tree → Result Given TableFault
performance_at given (Some a) (Some i) t = kept_performance given (a, i) t
performance_at given (Some a) None t = Ok given
performance_at given None criterion t = Ok given

unfoldable pub performance : Roster → Option ℕ → Given → Tree → Result Given TableFault
performance criteria alternative given t = do
  criterion ← standing_in criteria t (first_named (codes "criterionID") t)
  performance_at given alternative criterion t

-- those of an alternative
unfoldable pub performances : Roster → Roster → Given → Tree → Result Given TableFault
performances alternatives criteria given t = do
  alternative ← standing_in alternatives t (first_named (codes "alternativeID") t)
  read_all (performance criteria alternative) given (named (codes "performance") t)

unfoldable pub performances_of : Roster → Roster → Tree → Result Given TableFault
performances_of alternatives criteria root =
    read_all (performances alternatives criteria) []
    (at_path (codes "performanceTable" ∷ codes "alternativePerformances" ∷ []) root)

-- each is an amount
abbrev pub AreAmounts : Given → Type 0
AreAmounts given = All (λ g. IsAmount g.1) given
