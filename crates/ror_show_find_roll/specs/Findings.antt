-- The rolls of desks as values.
use Rattle.std.specs.Prelude.{ℕ, List, [], ◌∷◌, length, slice_index_or, Option, if◌then◌else◌}
use Rattle.std.specs.List.{flat_map, range_with_len}
use Rattle.ror_show_ground.specs.Grounds.{Ground}
use Rattle.ror_show_find_roll.specs.declared.findings.RollFound.{RollFound}
use Rattle.ror_show_find_roll.specs.Choosing.{is_desk}
use Rattle.ror_show_find_roll.specs.Roll.{roll_of}
use Rattle.ror_show_find_roll.specs.Steps.{kept_turns}

-- that of a desk, by its place, after the lines of it that were kept
unfoldable pub roll_at : Ground → ℕ → RollFound
roll_at g desk = record { desk = desk; roll = roll_of (length g.opening) (kept_turns g.session.lines desk g.kept) }

-- of a desk that is meant
abbrev pub roll_if : Option (List ℕ) → Ground → ℕ → List RollFound
roll_if meant g desk = if is_desk meant (slice_index_or g.session.desks desk []) then roll_at g desk ∷ [] else []

-- of all of them, in order
abbrev pub rolls : Option (List ℕ) → Ground → List RollFound
rolls meant g = flat_map (roll_if meant g) (range_with_len 0 (length g.session.desks))
