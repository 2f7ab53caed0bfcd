-- How counts of faults that rose, or did not, go together.
use Rattle.std.proofs.Common.{◌≤◌, ◌<◌, ℕ, ◌^◌, ◌⊎◌, arith}
use Rattle.ror_io.specs.Counts.{Rose, DidNotRise, next_count}

-- a count did not both rise and not rise
pub never_both : (before now : ℕ) → Rose before now → DidNotRise before now → ⊥
never_both before now rose stayed = omega arith

-- a count that never falls rose, or it did not
pub rose_or_not : (before now : ℕ) → before ≤ now → Rose before now ⊎ DidNotRise before now
rose_or_not before now up = grind arith

-- the count of one more fault rose
pub Rose-next_count : (before : ℕ) → Rose before (next_count before)
Rose-next_count before = omega arith

pub le-next_count : (before : ℕ) → before < 2 ^ 64 → before ≤ next_count before
le-next_count before fits = omega arith

-- a count that rose is still a count that rose, after further calls
pub Rose-then : (a b c : ℕ) → Rose a b → b ≤ c → Rose a c
Rose-then a b c rose up = omega arith

-- and after calls before
pub then-Rose : (a b c : ℕ) → a ≤ b → Rose b c → Rose a c
then-Rose a b c up rose = omega arith

-- over several calls a count did not rise exactly where it did not rise at any of them
pub DidNotRise-then : (a b c : ℕ) → DidNotRise a b → DidNotRise b c → DidNotRise a c
DidNotRise-then a b c first second = (omega arith, omega arith)

pub DidNotRise-first : (a b c : ℕ) → a ≤ b → b ≤ c → DidNotRise a c → DidNotRise a b
DidNotRise-first a b c up further whole = (omega arith, omega arith)

pub DidNotRise-second : (a b c : ℕ) → a ≤ b → b ≤ c → DidNotRise a c → DidNotRise b c
DidNotRise-second a b c up further whole = (omega arith, omega arith)
