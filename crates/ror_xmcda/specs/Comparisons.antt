-- The comparisons of alternatives.
use Rattle.std.specs.Prelude.{ℕ, List, [], ◌∷◌, ◌++◌, codes, Option, Some, None, Result, Ok, Err, if◌then◌else◌}
use Rattle.ror_text.specs.Reading.{◌>>=◌, need, read_all}
use Rattle.ror_statement.specs.declared.statement.Statement.TheVariants.{Prefer}
use Rattle.ror_table.specs.declared.fault.Kind.TheVariants as unsupported
use Rattle.ror_table.specs.declared.fault.TableFault.{TableFault}
use Rattle.ror_table.specs.declared.fault.TableKind.TheVariants.{UnknownId, Unsupported}
use Rattle.ror_table.specs.Plain.{at_line}
use Rattle.ror_elements.specs.Tree.{Tree}
use Rattle.ror_xmcda.specs.declared.roster.Roster.{Roster}
use Rattle.ror_xmcda.specs.declared.stated.Stated.{Stated}
use Rattle.ror_xmcda.specs.Nodes.{is_named, line_of, inside, at_path}
use Rattle.ror_xmcda.specs.Listing.{standing_at}
use Rattle.ror_xmcda.specs.Ends.{ends_of, both}

-- only the first of several is read
abbrev pub first_standing : Roster → Option (Option ℕ) → Tree → Result (Option (Option ℕ)) TableFault
first_standing roster None t = standing_at roster t >>= λ s. Ok (Some s)
first_standing roster (Some before) t = Ok (Some before)

-- an element inside a side of a pair: an alternative, and nothing else
unfoldable pub member : Roster → Option (Option ℕ) → Tree → Result (Option (Option ℕ)) TableFault
member alternatives found t =
    if is_named (codes "alternativeID") t then first_standing alternatives found t
    else Err (at_line (line_of t) (Unsupported unsupported.Member))

-- a side of a pair
unfoldable pub side : Roster → Tree → Result (Option ℕ) TableFault
side alternatives t = do
  found ← read_all (member alternatives) None (inside t)
  need (at_line (line_of t) UnknownId) found

-- the first alternative is preferred to the second; of what is left out nothing is stated
abbrev pub preference : ℕ → Option ℕ → Option ℕ → List Stated
preference line (Some a) (Some b) = record { line = line; statement = Prefer a b } ∷ []
preference line (Some a) None = []
preference line None b = []

unfoldable pub pair : Roster → List Stated → Tree → Result (List Stated) TableFault
pair alternatives stated t = do
  ends ← need (at_line (line_of t) UnknownId) (ends_of (codes "initial") (codes "terminal") t)
  places ← both ends.turned (side alternatives ends.first) (side alternatives ends.second)
  Ok (stated ++ preference (line_of t) places.0 places.1)

unfoldable pub comparisons_of : Roster → List Stated → Tree → Result (List Stated) TableFault
comparisons_of alternatives stated root =
    read_all (pair alternatives) stated
    (at_path (codes "alternativesComparisons" ∷ codes "pairs" ∷ codes "pair" ∷ []) root)
