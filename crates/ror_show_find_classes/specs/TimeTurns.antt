-- Which times follow one another: those of one desk.
use Rattle.std.specs.Prelude.{ℕ, Bool, false, ◌==◌, List, [], length, slice_get}
use Rattle.std.specs.List.{flat_map, range_with_len}
use Rattle.std.specs.Option.{option_map_or}
use Rattle.ror_show_ground.specs.Turns.{last_below, pair_with}
use Rattle.ror_show_find_classes.specs.declared.value.ClassTime.{ClassTime}

-- the time at a place, where there is one, is of this desk
abbrev pub is_at : List ClassTime → ℕ → ℕ → Bool
is_at times desk k = option_map_or (λ x. x.desk == desk) (slice_get times k) false

-- that of a desk at a place, and the last one of the desk before it, where there is one
abbrev pub turn_at : List ClassTime → ℕ → ℕ → List (ℕ × ℕ)
turn_at times k desk = pair_with k (last_below (is_at times desk) k)

abbrev pub turn_of : List ClassTime → ℕ → List (ℕ × ℕ)
turn_of times k = option_map_or (λ x. turn_at times k x.desk) (slice_get times k) []

-- each time with the last one before it at its desk, where there is one, by their places
abbrev pub turns : List ClassTime → List (ℕ × ℕ)
turns times = flat_map (turn_of times) (range_with_len 0 (length times))
