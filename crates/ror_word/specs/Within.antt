-- Which integers a word of some width has, and what a call gives that has one or none for its exact result.
use Rattle.std.specs.Prelude.{◌≡◌, ℕ, ◌<◌, ◌≤◌, ℤ, unsigned_abs, Option, Some, None}

-- z's absolute value does not pass `most`
abbrev pub IsWithin : ℕ → ℤ → Type 0
IsWithin most z = unsigned_abs z ≤ most

-- the word whose value is the exact integer, or none where that integer's absolute value passes `most`
abbrev pub GivesExact : {Self : Type 0} → (Self → ℤ) → ℕ → Option Self → ℤ → Type 0
GivesExact value most None exact = most < unsigned_abs exact
GivesExact value most (Some word) exact = (value word ≡ exact) × IsWithin most (value word)
