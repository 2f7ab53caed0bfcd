-- One pass of finding levels.
use Rattle.std.specs.Prelude.{ℕ, Bool, ◌&&◌, List, length, map, Option, Some, None, is_none, if◌then◌else◌}
use Rattle.std.specs.List.{range_with_len}
use Rattle.ror_show_find_relation.specs.Relations.{Square, above, some_below}
use Rattle.ror_show_find_relation.specs.Levels.{level_at}

-- it is above the alternative and has no level yet
abbrev pub is_open_above : Square → List (Option ℕ) → ℕ → ℕ → Bool
is_open_above r found a c = above r c a && is_none (level_at found c)

-- where nothing of that is, an alternative without a level gets this one
abbrev pub first_level : Square → List (Option ℕ) → ℕ → ℕ → Option ℕ → Option ℕ
first_level r found level a (Some known) = Some known
first_level r found level a None =
    if some_below (is_open_above r found a) (length r) then None else Some level

abbrev pub next_level : Square → List (Option ℕ) → ℕ → ℕ → Option ℕ
next_level r found level a = first_level r found level a (level_at found a)

abbrev pub next_levels : Square → List (Option ℕ) → ℕ → List (Option ℕ)
next_levels r found level = map (next_level r found level) (range_with_len 0 (length r))
