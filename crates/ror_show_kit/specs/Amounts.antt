-- How an amount is written: a whole number, a decimal where it is one of at most 18 places, else a ratio.
use Rattle.std.specs.Prelude.{ℕ, ◌+◌, ◌-◌, ◌*◌, ◌/◌, ◌%◌, ◌==◌, nat_le, List, [], ◌∷◌, ◌++◌, length, replicate, decimal, position, slice_index_or, Option, Some, None, pos, unsigned_abs, int_lt, if◌then◌else◌, ℤ}
use Rattle.ror_table.specs.declared.amount.Amount.{Amount}

-- 10, 100 and so on, up to 10^18
abbrev pub powers : List ℕ
powers = 10 ∷ 100 ∷ 1000 ∷ 10000 ∷ 100000 ∷ 1000000 ∷ 10000000 ∷ 100000000 ∷ 1000000000 ∷ 10000000000 ∷ 100000000000
    ∷ 1000000000000 ∷ 10000000000000 ∷ 100000000000000 ∷ 1000000000000000 ∷ 10000000000000000 ∷ 100000000000000000
    ∷ 1000000000000000000 ∷ []

-- with zeros before it up to so many digits
abbrev pub padded : ℕ → List ℕ → List ℕ
padded count digits = replicate (count - length digits) 48 ++ digits

-- n / d, where d divides the power of ten at this place
abbrev pub fraction_text : ℕ → ℕ → Option ℕ → List ℕ
fraction_text n d (Some place) = decimal (n / d) ++ 46 ∷ padded (place + 1) (decimal (n % d * (slice_index_or powers place 1 / d)))
fraction_text n d None = decimal n ++ 47 ∷ decimal d

abbrev pub ratio_text : ℕ → ℕ → List ℕ
ratio_text n d = if nat_le d 1 then decimal n else fraction_text n d (position (λ power. power % d == 0) powers)

-- the sign of a number below 0
abbrev pub sign_text : ℤ → List ℕ
sign_text n = if int_lt n (pos 0) then 45 ∷ [] else []

abbrev pub amount_text : Amount → List ℕ
amount_text p = sign_text p.num ++ ratio_text (unsigned_abs p.num) (unsigned_abs p.den)
