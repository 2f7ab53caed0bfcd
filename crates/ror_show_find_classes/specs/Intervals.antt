use Rattle.std.specs.Prelude.{ℕ, zero, suc, ◌+◌, ◌-◌, Bool, true, false, not, ◌&&◌, ◌==◌, List, length, slice_get, if◌then◌else◌}
use Rattle.std.specs.Option.{option_map_or}
use Rattle.ror_proof.specs.declared.answer.Answer.{Answer}
use Rattle.ror_bench.specs.declared.kept.KeptLine.{KeptLine}
use Rattle.ror_show_find_classes.specs.Signs.{sign_of_class, is_left, is_possible, is_known, is_contradiction}

-- the least and the greatest of the first n classes that isn't excluded, 0 where each is
abbrev pub lowest : List Answer → ℕ → ℕ
lowest xs zero = 0
lowest xs (suc n) = if lowest xs n == 0 && is_left xs (n + 1) then n + 1 else lowest xs n

abbrev pub highest : List Answer → ℕ → ℕ
highest xs zero = 0
highest xs (suc n) = if is_left xs (n + 1) then n + 1 else highest xs n

-- one class alone isn't excluded, and it is possible
abbrev pub is_settled : ℕ → List Answer → Bool
is_settled classes xs = lowest xs classes == highest xs classes && is_possible (sign_of_class xs (lowest xs classes))

-- of each of the first n classes it is concluded whether it is possible, or that no function agrees
abbrev pub is_whole : List Answer → ℕ → Bool
is_whole xs zero = true
is_whole xs (suc n) = if is_known (sign_of_class xs (n + 1)) then is_whole xs n else false

-- of one of the first n classes, that no function agrees
abbrev pub is_contradictory : List Answer → ℕ → Bool
is_contradictory xs zero = false
is_contradictory xs (suc n) = if is_contradiction (sign_of_class xs (n + 1)) then true else is_contradictory xs n

-- it isn't settled, and some class isn't excluded
abbrev pub is_open : ℕ → List Answer → Bool
is_open classes xs = not (is_settled classes xs) && not (highest xs classes == 0)

-- the number of the line at the last of these places
abbrev pub last_line : List KeptLine → List ℕ → ℕ
last_line kept ns = option_map_or (λ n. option_map_or (λ y. y.block.line) (slice_get kept n) 0) (slice_get ns (length ns - 1)) 0
