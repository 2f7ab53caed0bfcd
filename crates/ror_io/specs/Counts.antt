-- Counts of faults, which stand still at 2 ^ 64 - 1: where one rose, and where it did not.
use Rattle.std.specs.Prelude.{◌≡◌, ℕ, zero, suc, ◌+◌, ◌-◌, ◌^◌, ◌<◌, ◌≤◌, min}

-- the count after one more, unless it stands at its last value
abbrev pub next_count : ℕ → ℕ
next_count count = min (count + 1) (2 ^ 64 - 1)

-- the count after so many more
abbrev pub count_after : ℕ → ℕ → ℕ
count_after zero count = count
count_after (suc n) count = next_count (count_after n count)

-- the count rose, or stands at its last value
abbrev pub Rose : ℕ → ℕ → Type 0
Rose before now = min (before + 1) (2 ^ 64 - 1) ≤ now

-- the count stayed, and stood below its last value
abbrev pub DidNotRise : ℕ → ℕ → Type 0
DidNotRise before now = (now ≡ before) × (before < 2 ^ 64 - 1)
