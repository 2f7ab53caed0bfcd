-- What may be added to a table that is being made, and when it is whole.
use Rattle.std.specs.Prelude.{ℕ, ◌≤◌, List, [], ◌∷◌, ◌++◌, length, Bool, not, ◌||◌, ◌==◌, nat_lt, nat_le, Option, Some, None, Result, Ok, All}
use Rattle.std.specs.Set.{is_member}
use Rattle.std.specs.Str.{bytes_eq}
use Rattle.ror_text.specs.Ids.{is_id, IsId}
use Rattle.ror_text.specs.Reading.{◌>>=◌, refuse}
use Rattle.ror_table.specs.declared.limits.TheConstants.{MOST_ALTERNATIVES, MOST_CLASSES, MOST_CRITERIA, MOST_STEPS}
use Rattle.ror_table.specs.declared.amount.Amount.{Amount}
use Rattle.ror_table.specs.declared.direction.Scale.{Scale}
use Rattle.ror_table.specs.declared.fault.DraftFault.{DraftFault}
use Rattle.ror_table.specs.declared.fault.DraftFault.TheVariants.{Memory}
use Rattle.ror_table.specs.Table.{DecisionTable, criterion_ids, alternative_ids, columns, has_wide_scale, AreDistinct, IsEvaluated}

-- the refusal that an error names: none for want of memory
abbrev pub draft_fault : DraftFault → Option DraftFault
draft_fault Memory = None
draft_fault fault = Some fault

-- a table that holds nothing
abbrev pub empty_table : DecisionTable
empty_table = record { criteria = []; alternatives = []; classes = 0 }

-- whether one of the ids is this one
abbrev pub has_id : List (List ℕ) → List ℕ → Bool
has_id ids id = is_member bytes_eq ids id

-- the table with one criterion more, the last
abbrev pub add_criterion : DecisionTable → List ℕ → Scale → DecisionTable
add_criterion t id scale =
    record t {
      criteria =
          t.criteria ++ record { id = id; direction = scale.direction; linear = scale.linear } ∷ [];
    }

-- the table with one alternative more, the last
abbrev pub add_alternative : DecisionTable → List ℕ → List Amount → DecisionTable
add_alternative t id performances =
    record t {
      alternatives =
          t.alternatives ++ record { id = id; performances = performances } ∷ [];
    }

-- Each definition that follows gives the table, or the first reason against it; its first arguments
-- name the reasons.

-- an id that none of these has
abbrev pub free_id : {F : Type 0} → F → F → List (List ℕ) → List ℕ → Result (Unit {0}) F
free_id no_id repeated ids id = do
  _ ← refuse no_id (not (is_id id))
  refuse repeated (has_id ids id)

-- one criterion more
unfoldable pub with_criterion : {F : Type 0} → F → F → F → DecisionTable → List ℕ → Scale
    → Result DecisionTable F
with_criterion no_id repeated full t id scale = do
  _ ← free_id no_id repeated (criterion_ids t) id
  _ ← refuse full (nat_le MOST_CRITERIA (length t.criteria))
  Ok (add_criterion t id scale)

-- one alternative more, with an id that is free
abbrev pub place_alternative : {F : Type 0} → F → DecisionTable → List ℕ → List Amount
    → Result DecisionTable F
place_alternative full t id performances = do
  _ ← refuse full (nat_le MOST_ALTERNATIVES (length t.alternatives))
  Ok (add_alternative t id performances)

-- one alternative more
unfoldable pub with_alternative : {F : Type 0} → F → F → F → DecisionTable → List ℕ → List Amount
    → Result DecisionTable F
with_alternative no_id repeated full t id performances = do
  _ ← free_id no_id repeated (alternative_ids t) id
  place_alternative full t id performances

-- the table itself, if it is one
unfoldable pub finished : {F : Type 0} → F → F → F → DecisionTable → Result DecisionTable F
finished empty wide wide_scale t = do
  _ ← refuse empty (length t.criteria == 0 || length t.alternatives == 0)
  _ ← refuse wide (nat_lt MOST_STEPS (columns t))
  _ ← refuse wide_scale (has_wide_scale t)
  Ok t

-- what a table that is being made keeps
pub record IsDraft (t : DecisionTable) : Type 0 where
  pub criteria_limit : length t.criteria ≤ MOST_CRITERIA
  pub alternatives_limit : length t.alternatives ≤ MOST_ALTERNATIVES
  pub classes_limit : t.classes ≤ MOST_CLASSES
  pub criterion_ids_valid : All IsId (criterion_ids t)
  pub alternative_ids_valid : All IsId (alternative_ids t)
  pub criterion_ids_distinct : AreDistinct (criterion_ids t)
  pub alternative_ids_distinct : AreDistinct (alternative_ids t)
  pub evaluated : All (IsEvaluated (length t.criteria)) t.alternatives
