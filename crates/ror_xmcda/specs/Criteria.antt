-- The criteria, and the direction of each.
use Rattle.std.specs.Prelude.{◌≡◌, ℕ, List, [], ◌∷◌, ◌++◌, length, codes, Option, Some, None, Result, Ok, Err, if◌then◌else◌, nat_le}
use Rattle.ror_text.specs.Reading.{◌>>=◌, refuse, need, read_all}
use Rattle.ror_table.specs.declared.limits.TheConstants.{MOST_CRITERIA}
use Rattle.ror_table.specs.declared.direction.Direction.{Direction}
use Rattle.ror_table.specs.declared.direction.Direction.TheVariants.{Max}
use Rattle.ror_table.specs.declared.fault.Kind.TheVariants as unsupported
use Rattle.ror_table.specs.declared.fault.What.TheVariants as whats
use Rattle.ror_table.specs.declared.fault.TableFault.{TableFault}
use Rattle.ror_table.specs.declared.fault.TableKind.TheVariants.{TooMany, Unsupported}
use Rattle.ror_table.specs.Plain.{at_line, direction_of}
use Rattle.ror_elements.specs.Tree.{Tree}
use Rattle.ror_xmcda.specs.declared.criteria.Criteria.{Criteria}
use Rattle.ror_xmcda.specs.Nodes.{text_of, line_of, at_path, first_of}
use Rattle.ror_xmcda.specs.Roster.{AreIds, nothing_listed, with_kept, with_left_out}
use Rattle.ror_xmcda.specs.Listing.{new_id, is_active}

abbrev pub no_qualitative_at : Option Tree → Result (Unit {0}) TableFault
no_qualitative_at None = Ok tt
no_qualitative_at (Some t) = Err (at_line (line_of t) (Unsupported unsupported.Qualitative))

-- no scale of a criterion is qualitative
unfoldable pub no_qualitative : Tree → Result (Unit {0}) TableFault
no_qualitative t = no_qualitative_at (first_of (at_path (codes "scale" ∷ codes "qualitative" ∷ []) t))

abbrev pub direction_at : Option Tree → Result Direction TableFault
direction_at None = Ok Max
direction_at (Some t) =
    need (at_line (line_of t) (Unsupported unsupported.Direction)) (direction_of (text_of t))

-- what its first `preferenceDirection` says; without one, greater is better
unfoldable pub criterion_direction : Tree → Result Direction TableFault
criterion_direction t =
    direction_at (first_of
    (at_path (codes "scale" ∷ codes "quantitative" ∷ codes "preferenceDirection" ∷ []) t))

abbrev pub kept_criterion : Criteria → List ℕ → Tree → Result Criteria TableFault
kept_criterion criteria id t = do
  _ ← refuse (at_line (line_of t) (TooMany whats.Criteria))
      (nat_le MOST_CRITERIA (length criteria.ids.kept))
  _ ← no_qualitative t
  direction ← criterion_direction t
  Ok (record {
    ids = with_kept criteria.ids id;
    directions = criteria.directions ++ direction ∷ [];
  })

unfoldable pub criterion : Criteria → Tree → Result Criteria TableFault
criterion criteria t = do
  id ← new_id criteria.ids t
  active ← is_active t
  if active then kept_criterion criteria id t
      else Ok (record criteria { ids = with_left_out criteria.ids id })

-- criteria that a table may have, with a direction for each
pub record AreCriteria (criteria : Criteria) : Type 0 where
  pub ids : AreIds MOST_CRITERIA criteria.ids.kept
  pub paired : length criteria.directions ≡ length criteria.ids.kept

abbrev pub no_criteria : Criteria
no_criteria = record { ids = nothing_listed; directions = [] }

unfoldable pub criteria_of : Tree → Result Criteria TableFault
criteria_of root =
    read_all criterion no_criteria (at_path (codes "criteria" ∷ codes "criterion" ∷ []) root)
