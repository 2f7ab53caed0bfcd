-- The arrows of a relation: the pairs of its strict part between which nothing stands.
use Rattle.std.specs.Prelude.{ℕ, Bool, not, ◌&&◌, List, [], ◌∷◌, length, if◌then◌else◌}
use Rattle.std.specs.List.{flat_map, range_with_len}
use Rattle.ror_show_find_relation.specs.Relations.{Square, above, IsAbove, some_below}

-- the first is above the second, and no alternative is below the first and above the second
pub record IsArrow (r : Square) (a b : ℕ) : Type 0 where
  pub above : IsAbove r a b
  pub bare : (c : ℕ) → IsAbove r a c → IsAbove r c b → ⊥

-- ---- as tests, which a law ties to the above

abbrev pub is_between : Square → ℕ → ℕ → ℕ → Bool
is_between r a b c = above r a c && above r c b

abbrev pub is_arrow : Square → ℕ → ℕ → Bool
is_arrow r a b = above r a b && not (some_below (is_between r a b) (length r))

-- the pair, where it is an arrow
abbrev pub arrow_of : Square → ℕ → ℕ → List (ℕ × ℕ)
arrow_of r a b = if is_arrow r a b then (a, b) ∷ [] else []

-- the arrows from one alternative, in order of where they lead
abbrev pub arrows_from : Square → ℕ → List (ℕ × ℕ)
arrows_from r a = flat_map (arrow_of r a) (range_with_len 0 (length r))

-- all arrows, in order of where they begin, and then of where they lead
abbrev pub arrows : Square → List (ℕ × ℕ)
arrows r = flat_map (arrows_from r) (range_with_len 0 (length r))
