-- What becomes of ordered pairs of alternatives where another list stands: by the cells of what is, and of what would be.
use Rattle.std.specs.Prelude.{◌≡◌, ℕ, Bool, true, false, not, ◌&&◌, ◌==◌, nat_lt, List, [], ◌∷◌, length, Option, Some, None, if◌then◌else◌}
use Rattle.std.specs.List.{flat_map, range_with_len}
use Rattle.ror_show_find_relation.specs.declared.cell.Cell.{Cell}
use Rattle.ror_show_find_relation.specs.declared.cell.Cell.TheVariants as cells
use Rattle.ror_show_find_relation.specs.Rows.{cell_in}
use Rattle.ror_show_find_whatif.specs.declared.shift.Held.{Held}
use Rattle.ror_show_find_whatif.specs.declared.shift.Held.TheVariants as held
use Rattle.ror_show_find_whatif.specs.declared.shift.Shift.{Shift}
use Rattle.ror_show_find_whatif.specs.declared.shift.Shift.TheVariants as shifts
use Rattle.ror_show_find_whatif.specs.declared.pairs.PairEffect.{PairEffect}

-- what a cell says of whether the row's alternative is at least as good as the column's
abbrev pub held_by : Cell → Held
held_by cells.AlwaysBetter = held.Strictly
held_by cells.AtLeastAsGood = held.Weakly
held_by cells.AlwaysEqual = held.Weakly
held_by cells.Open = held.Not
held_by cells.AtMostAsGood = held.Not
held_by cells.NeverAsGood = held.Not
held_by cells.Contradiction = held.NoFunction
held_by cells.Itself = held.Nothing
held_by cells.Unknown = held.Nothing

-- From what is held to what would be. Where no function agrees, now or then, nothing is compared.
abbrev pub shift_by : Held → Held → Option Shift
shift_by held.NoFunction _ = None
shift_by _ held.NoFunction = None
shift_by held.Nothing _ = Some shifts.Unknown
shift_by _ held.Nothing = Some shifts.Unknown
shift_by held.Strictly held.Not = Some shifts.Lost
shift_by held.Weakly held.Not = Some shifts.Lost
shift_by held.Strictly held.Weakly = Some shifts.Weaker
shift_by held.Weakly held.Strictly = Some shifts.Stronger
shift_by held.Not held.Strictly = Some shifts.Won
shift_by held.Not held.Weakly = Some shifts.Won
shift_by _ _ = None

abbrev pub shift_of : Cell → Cell → Option Shift
shift_of before after = shift_by (held_by before) (held_by after)

abbrev pub is_same : Shift → Shift → Bool
is_same shifts.Lost shifts.Lost = true
is_same shifts.Weaker shifts.Weaker = true
is_same shifts.Won shifts.Won = true
is_same shifts.Stronger shifts.Stronger = true
is_same shifts.Unknown shifts.Unknown = true
is_same _ _ = false

abbrev pub is_found : Shift → Option Shift → Bool
is_found shift (Some found) = is_same shift found
is_found shift None = false

-- the pair is of different alternatives; where it isn't concluded how they stand, each two are listed once
abbrev pub is_listed : Shift → ℕ → ℕ → Bool
is_listed shifts.Unknown a b = nat_lt a b
is_listed _ a b = not (a == b)

-- this becomes of the pair
abbrev pub has_shift : List (List Cell) → List (List Cell) → Shift → ℕ → ℕ → Bool
has_shift before after shift a b = is_listed shift a b && is_found shift (shift_of (cell_in before a b) (cell_in after a b))

abbrev pub pair_of : List (List Cell) → List (List Cell) → Shift → ℕ → ℕ → List (ℕ × ℕ)
pair_of before after shift a b = if has_shift before after shift a b then (a, b) ∷ [] else []

-- those from one alternative, in order of where they lead
abbrev pub pairs_from : List (List Cell) → List (List Cell) → Shift → ℕ → List (ℕ × ℕ)
pairs_from before after shift a = flat_map (pair_of before after shift a) (range_with_len 0 (length before))

-- all, in order of where they begin
abbrev pub shifted_pairs : List (List Cell) → List (List Cell) → Shift → List (ℕ × ℕ)
shifted_pairs before after shift = flat_map (pairs_from before after shift) (range_with_len 0 (length before))

pub record IsPairEffect (before after : List (List Cell)) (f : PairEffect) : Type 0 where
  pub lost : f.lost ≡ shifted_pairs before after shifts.Lost
  pub weaker : f.weaker ≡ shifted_pairs before after shifts.Weaker
  pub won : f.won ≡ shifted_pairs before after shifts.Won
  pub stronger : f.stronger ≡ shifted_pairs before after shifts.Stronger
  pub unknown : f.unknown ≡ shifted_pairs before after shifts.Unknown
