-- What is worked out once of a table: the levels of each criterion, their weights, and where its columns begin.
use Rattle.std.specs.Prelude.{◌≡◌, ℕ, ◌<◌, ◌≤◌, true, List, length, map, slice_index, slice_index_or, ℤ, pos, ◌-ℤ◌, unsigned_abs}
use Rattle.std.specs.Global.{Vec}
use Rattle.ror_table.specs.declared.amount.Amount.{Amount}
use Rattle.ror_integers.specs.Vectors.{entry}
use Rattle.ror_table.specs.declared.limits.TheConstants.{AMOUNT_LIMIT}
use Rattle.ror_table.specs.Amounts.{whole}
use Rattle.ror_table.specs.Table.{DecisionTable, multiple, direction_at, performances_on, offset, columns, has_weights, weights, IsTable}
use Rattle.ror_table.specs.Levels.{IsLevels}

-- the levels of each criterion, in order
pub record AreLevels (t : DecisionTable) (levels : List (Vec Amount)) : Type 0 where
  pub number : length levels ≡ length t.criteria
  pub each : (i : ℕ) (d : Vec Amount) → i < length t.criteria
      → IsLevels (direction_at t i) (performances_on t i) (slice_index_or levels i d).items

-- how far each level lies from the first one, times a common denominator
abbrev pub distances_of : ℕ → List Amount → List ℤ
distances_of common levels =
    map (λ p. pos (unsigned_abs (multiple common p -ℤ multiple common (slice_index_or levels 0 (whole (pos 0))))))
    levels

-- some number passes what an amount may be
abbrev pub IsWideSomewhere : List ℤ → Type 0
IsWideSomewhere numbers =
    (k : ℕ) × (k < length numbers) × (AMOUNT_LIMIT ≤ unsigned_abs (entry numbers k))

-- the weights of each criterion that has some
pub record AreWeightsOfEach (t : DecisionTable) (all : List (Vec ℤ)) : Type 0 where
  pub number : length all ≡ length t.criteria
  pub each : (i : ℕ) (d : Vec ℤ) → i < length t.criteria → has_weights t i ≡ true
      → (slice_index_or all i d).items ≡ weights t i

-- how many columns the criteria before each one have, and how many all have
pub record AreOffsets (t : DecisionTable) (offsets : List ℕ) (all : ℕ) : Type 0 where
  pub number : length offsets ≡ length t.criteria
  pub each : (i : ℕ) → i < length t.criteria → slice_index offsets i ≡ offset t i
  pub total : all ≡ columns t

pub record IsIndexed (t : DecisionTable) (levels : List (Vec Amount)) (weights : List (Vec ℤ))
    (offsets : List ℕ) (all : ℕ) : Type 0 where
  pub table : IsTable t
  pub right_levels : AreLevels t levels
  pub right_weights : AreWeightsOfEach t weights
  pub right_offsets : AreOffsets t offsets all
