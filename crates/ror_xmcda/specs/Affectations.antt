-- The assignments of alternatives to categories.
use Rattle.std.specs.Prelude.{ℕ, ◌&&◌, ◌||◌, Bool, not, List, [], ◌∷◌, ◌++◌, codes, min, max, Option, Some, None, is_some, unwrap_or, Result, Ok, Err, if◌then◌else◌}
use Rattle.std.specs.Option.{option_map}
use Rattle.ror_text.specs.Reading.{◌>>=◌, refuse, need, read_all}
use Rattle.ror_statement.specs.declared.statement.Statement.TheVariants.{Class}
use Rattle.ror_table.specs.declared.fault.Kind.TheVariants as unsupported
use Rattle.ror_table.specs.declared.fault.TableFault.{TableFault}
use Rattle.ror_table.specs.declared.fault.TableKind.TheVariants.{UnknownId, Unsupported}
use Rattle.ror_table.specs.Plain.{at_line}
use Rattle.ror_elements.specs.Tree.{Tree}
use Rattle.ror_xmcda.specs.declared.affectations.Assigned.{Assigned}
use Rattle.ror_xmcda.specs.declared.affectations.Classes.{Classes}
use Rattle.ror_xmcda.specs.declared.categories.Categories.{Categories}
use Rattle.ror_xmcda.specs.declared.roster.Roster.{Roster}
use Rattle.ror_xmcda.specs.declared.stated.Stated.{Stated}
use Rattle.ror_xmcda.specs.Nodes.{is_named, line_of, inside, first_named, at_path}
use Rattle.ror_xmcda.specs.Listing.{standing_at}
use Rattle.ror_xmcda.specs.Categories.{class_of}
use Rattle.ror_xmcda.specs.Comparisons.{first_standing}
use Rattle.ror_xmcda.specs.Ends.{ends_of, both}

-- the class of the category that an element names, if it is kept
unfoldable pub class_at : Bool → Categories → Tree → Result (Option ℕ) TableFault
class_at best_first categories t = do
  place ← standing_at categories.ids t
  Ok (option_map (class_of best_first categories.ranks) place)

-- a bound names its category by a `categoryID`, or by its own text
unfoldable pub bound : Bool → Categories → Tree → Result (Option ℕ) TableFault
bound best_first categories t =
    class_at best_first categories (unwrap_or (first_named (codes "categoryID") t) t)

-- from the lesser to the greater of two classes, or None where a category is left out
abbrev pub between : Option ℕ → Option ℕ → Option Classes
between (Some a) (Some b) = Some (record { lowest = min a b; highest = max a b })
between (Some a) None = None
between None b = None

unfoldable pub interval : Bool → Categories → Tree → Result (Option Classes) TableFault
interval best_first categories t = do
  ends ← need (at_line (line_of t) UnknownId) (ends_of (codes "lowerBound") (codes "upperBound") t)
  classes ← both ends.turned (bound best_first categories ends.first) (bound best_first categories ends.second)
  Ok (between classes.0 classes.1)

-- a `categoryID`, as an interval of its one class
unfoldable pub single : Bool → Categories → Tree → Result (Option Classes) TableFault
single best_first categories t = do
  class ← class_at best_first categories t
  Ok (between class class)

abbrev pub nothing_assigned : Assigned
nothing_assigned = record { alternative = None; classes = None }

abbrev pub with_alternative : Assigned → Result (Option (Option ℕ)) TableFault → Result Assigned TableFault
with_alternative assigned alternative = alternative >>= λ found. Ok (record assigned { alternative = found })

-- only the first of several is read
abbrev pub with_classes : Assigned → Option (Option Classes) → Result (Option Classes) TableFault → Result Assigned TableFault
with_classes assigned (Some before) classes = Ok assigned
with_classes assigned None classes = classes >>= λ c. Ok (record assigned { classes = Some c })

-- sets of alternatives and of categories
abbrev pub is_set : Tree → Bool
is_set t = is_named (codes "alternativesSetID") t || is_named (codes "categoriesSet") t

-- an element inside an assignment
unfoldable pub part : Bool → Roster → Categories → Assigned → Tree → Result Assigned TableFault
part best_first alternatives categories assigned t =
    if is_set t then Err (at_line (line_of t) (Unsupported unsupported.Member))
    else (if is_named (codes "alternativeID") t
    then with_alternative assigned (first_standing alternatives assigned.alternative t)
    else (if is_named (codes "categoryID") t
    then with_classes assigned assigned.classes (single best_first categories t)
    else (if is_named (codes "categoriesInterval") t
    then with_classes assigned assigned.classes (interval best_first categories t)
    else Ok assigned)))

abbrev pub has : List ℕ → Tree → Bool
has name t = is_some (first_named name t)

-- an alternative, or a set in its place
abbrev pub has_alternative : Tree → Bool
has_alternative t = has (codes "alternativeID") t || has (codes "alternativesSetID") t

-- a category, an interval, or a set in its place
abbrev pub has_category : Tree → Bool
has_category t = has (codes "categoryID") t || has (codes "categoriesInterval") t || has (codes "categoriesSet") t

unfoldable pub is_complete : Tree → Bool
is_complete t = has_alternative t && has_category t

abbrev pub assignment : ℕ → Option (Option ℕ) → Option (Option Classes) → List Stated
assignment line (Some (Some a)) (Some (Some c)) =
    record { line = line; statement = Class a c.lowest c.highest } ∷ []
assignment line _ _ = []

unfoldable pub affectation : Bool → Roster → Categories → List Stated → Tree → Result (List Stated) TableFault
affectation best_first alternatives categories stated t = do
  _ ← refuse (at_line (line_of t) UnknownId) (not (is_complete t))
  assigned ← read_all (part best_first alternatives categories) nothing_assigned (inside t)
  Ok (stated ++ assignment (line_of t) assigned.alternative assigned.classes)

unfoldable pub affectations_of : Bool → Roster → Categories → List Stated → Tree → Result (List Stated) TableFault
affectations_of best_first alternatives categories stated root =
    read_all (affectation best_first alternatives categories) stated
    (at_path (codes "alternativesAffectations" ∷ codes "alternativeAffectation" ∷ []) root)
