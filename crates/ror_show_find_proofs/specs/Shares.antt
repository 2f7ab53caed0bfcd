-- Shares of a whole, rounded to three places.
use Rattle.std.specs.Prelude.{ℕ, ◌+◌, ◌*◌, ◌/◌, ◌%◌, ◌<◌, ◌≤◌, ◌^◌, Bool, not, ◌==◌, nat_le, if◌then◌else◌}
use Rattle.ror_show_find_proofs.specs.declared.share.Share.{Share}

-- a part that isn't above the whole, which is above 0 and at most 2^127 - 1
pub record IsShare (s : Share) : Type 0 where
  pub within : s.part ≤ s.whole
  pub positive : 0 < s.whole
  pub narrow : s.whole < 2 ^ 127

-- what is left of the part beside whole thousandths, a thousand times
abbrev pub left_over : Share → ℕ
left_over s = 1000 * s.part % s.whole

-- the nearest number of thousandths; of two that are equally near the greater
abbrev pub thousandths : Share → ℕ
thousandths s = if nat_le s.whole (2 * left_over s) then 1000 * s.part / s.whole + 1 else 1000 * s.part / s.whole

-- that isn't the share itself
abbrev pub is_rounded : Share → Bool
is_rounded s = not (left_over s == 0)
