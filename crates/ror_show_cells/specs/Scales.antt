-- What a cell says of a criterion's direction and scale.
use Rattle.std.specs.Prelude.{ℕ, ◌+◌, ◌==◌, Bool, true, false, ◌||◌, List, take, drop, codes, position, Option, Some, None, if◌then◌else◌}
use Rattle.std.specs.Option.{option_map, option_map_or}
use Rattle.std.specs.Str.{bytes_eq}
use Rattle.ror_table.specs.declared.direction.Direction.{Direction}
use Rattle.ror_table.specs.declared.direction.Direction.TheVariants.{Max, Min}
use Rattle.ror_table.specs.declared.direction.Scale.{Scale}

-- in small or capital letters, or with the first one capital, as spreadsheets make it
abbrev pub direction_in : List ℕ → Option Direction
direction_in word =
    if bytes_eq word (codes "max") || bytes_eq word (codes "Max") || bytes_eq word (codes "MAX") then Some Max
    else (if bytes_eq word (codes "min") || bytes_eq word (codes "Min") || bytes_eq word (codes "MIN") then Some Min
    else None)

abbrev pub scale_with : Bool → Option Direction → Option Scale
scale_with linear direction = option_map (λ d. record { direction = d; linear = linear }) direction

-- a direction and `linear`
abbrev pub linear_scale : List ℕ → List ℕ → Option Scale
linear_scale before behind = if bytes_eq behind (codes "linear") then scale_with true (direction_in before) else None

-- a direction, or one with ` linear` behind it
unfoldable pub scale_in : List ℕ → Option Scale
scale_in cell = option_map_or (λ place. linear_scale (take place cell) (drop (place + 1) cell))
    (position (λ byte. byte == 32) cell) (scale_with false (direction_in cell))
