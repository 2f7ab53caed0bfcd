-- The ids of what a file lists: of the categories, the alternatives or the criteria.
use Rattle.std.specs.Prelude.{ℕ, ◌≤◌, ◌||◌, Bool, List, [], ◌∷◌, ◌++◌, length, All, Option, Some, None, if◌then◌else◌}
use Rattle.std.specs.Option.{option_map}
use Rattle.ror_text.specs.Ids.{IsId}
use Rattle.ror_table.specs.Table.{AreDistinct, place_of}
use Rattle.ror_table.specs.Draft.{has_id}
use Rattle.ror_xmcda.specs.declared.roster.Roster.{Roster}

-- distinct ids, of which there are at most so many
pub record AreIds (most : ℕ) (ids : List (List ℕ)) : Type 0 where
  pub few : length ids ≤ most
  pub valid : All IsId ids
  pub distinct : AreDistinct ids

abbrev pub nothing_listed : Roster
nothing_listed = record { kept = []; left_out = [] }

abbrev pub is_listed : Roster → List ℕ → Bool
is_listed roster id = has_id roster.kept id || has_id roster.left_out id

abbrev pub with_kept : Roster → List ℕ → Roster
with_kept roster id = record roster { kept = roster.kept ++ id ∷ [] }

abbrev pub with_left_out : Roster → List ℕ → Roster
with_left_out roster id = record roster { left_out = roster.left_out ++ id ∷ [] }

-- what an id stands for, if it is listed: what is kept at a place, or Some None where it is left out
unfoldable pub standing : Roster → List ℕ → Option (Option ℕ)
standing roster id =
    if has_id roster.left_out id then Some None else option_map Some (place_of roster.kept id)
