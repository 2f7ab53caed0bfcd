-- How whole numbers are kept, one place of 32 bits each: what a place stands for.
use Rattle.std.specs.Prelude.{ℕ, ◌+◌, ◌-◌, ◌<◌, nat_lt, List, ℤ, pos, negsuc, if◌then◌else◌, ⊤}
use Rattle.ror_integers.specs.Vectors.{entry}

-- the numbers that stand in their places themselves are those of at least -2^30
abbrev pub plain_limit : ℕ
plain_limit = 1073741824

abbrev pub IsPlain : ℤ → Type 0
IsPlain (pos n) = ⊤
IsPlain (negsuc n) = n < plain_limit

-- what is below that names one of the numbers beside
abbrev pub number_at : List ℤ → ℤ → ℤ
number_at wide (pos n) = pos n
number_at wide (negsuc n) = if nat_lt n plain_limit then negsuc n else entry wide (n - plain_limit)

-- a place that names none but the first so many numbers beside
abbrev pub IsPlaceAmong : ℕ → ℤ → Type 0
IsPlaceAmong count (pos n) = ⊤
IsPlaceAmong count (negsuc n) = n < plain_limit + count
