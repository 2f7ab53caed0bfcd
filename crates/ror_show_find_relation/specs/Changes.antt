-- What changed from one relation of some alternatives to another.
use Rattle.std.specs.Prelude.{ℕ, Bool, true, false, not, ◌&&◌, ◌==◌, max, List, [], ◌∷◌, length, Option, Some, None, if◌then◌else◌}
use Rattle.std.specs.List.{flat_map, range_with_len}
use Rattle.ror_show_find_relation.specs.Relations.{Square, holds}
use Rattle.ror_show_find_relation.specs.declared.change.Change.{Change}
use Rattle.ror_show_find_relation.specs.declared.change.Change.TheVariants as changes

-- it holds in the one relation, and not in the other
abbrev pub alone : Square → Square → ℕ → ℕ → Bool
alone one other a b = holds one a b && not (holds other a b)

-- By whether the pair held before and holds now, and whether the converse holds now alone, and held before alone. What holds now
-- alone is no change of its own where its converse was turned round to it.
abbrev pub change_by : Bool → Bool → Bool → Bool → Option Change
change_by true true came went = Some changes.Stayed
change_by true false came went = Some (if came then changes.TurnedRound else changes.NoLonger)
change_by false true came went = if went then None else Some changes.New
change_by false false came went = None

-- what became of an ordered pair of different alternatives
abbrev pub change_of : Square → Square → ℕ → ℕ → Option Change
change_of before now a b = if a == b then None
    else change_by (holds before a b) (holds now a b) (alone now before b a) (alone before now b a)

abbrev pub is_same : Change → Change → Bool
is_same changes.Stayed changes.Stayed = true
is_same changes.TurnedRound changes.TurnedRound = true
is_same changes.NoLonger changes.NoLonger = true
is_same changes.New changes.New = true
is_same _ _ = false

abbrev pub is_change : Change → Option Change → Bool
is_change change (Some found) = is_same found change
is_change change None = false

abbrev pub has_change : Square → Square → Change → ℕ → ℕ → Bool
has_change before now change a b = is_change change (change_of before now a b)

-- ---- the pairs of a change

-- the pair, where this became of it
abbrev pub pair_of : Square → Square → Change → ℕ → ℕ → List (ℕ × ℕ)
pair_of before now change a b = if has_change before now change a b then (a, b) ∷ [] else []

-- those from one alternative, in order of where they lead
abbrev pub pairs_from : Square → Square → Change → ℕ → ℕ → List (ℕ × ℕ)
pairs_from before now change size a = flat_map (pair_of before now change a) (range_with_len 0 size)

-- all, in order of where they begin
abbrev pub changed_pairs : Square → Square → Change → List (ℕ × ℕ)
changed_pairs before now change = flat_map (pairs_from before now change (max (length before) (length now)))
    (range_with_len 0 (max (length before) (length now)))
