-- A finite relation as a square of truth values, its strict and its symmetric part, and paths along a relation.
use Rattle.std.specs.Prelude.{◌≡◌, ℕ, zero, suc, ◌+◌, ◌<◌, Bool, true, false, not, ◌&&◌, ◌||◌, nat_lt, List, [], length, slice_index_or, if◌then◌else◌}

-- row by row; as many alternatives as rows, numbered from 0
abbrev pub Square : Type 0
Square = List (List Bool)

-- the first alternative is over the second: the entry of its row; of alternatives that aren't there none is over another
abbrev pub holds : Square → ℕ → ℕ → Bool
holds r a b = nat_lt b (length r) && slice_index_or (slice_index_or r a []) b false

-- the strict part: the first is over the second, and the second isn't over the first
abbrev pub above : Square → ℕ → ℕ → Bool
above r a b = holds r a b && not (holds r b a)

-- the symmetric part: each is over the other
abbrev pub equals : Square → ℕ → ℕ → Bool
equals r a b = holds r a b && holds r b a

-- one of the two is over the other
abbrev pub is_decided : Square → ℕ → ℕ → Bool
is_decided r a b = holds r a b || holds r b a

abbrev pub IsAbove : Square → ℕ → ℕ → Type 0
IsAbove r a b = above r a b ≡ true

-- one of the first n numbers passes the test
abbrev pub some_below : (ℕ → Bool) → ℕ → Bool
some_below p zero = false
some_below p (suc n) = p n || some_below p n

-- how many of the first n numbers pass the test
abbrev pub count_below : (ℕ → Bool) → ℕ → ℕ
count_below p zero = 0
count_below p (suc n) = (if p n then 1 else 0) + count_below p n

-- how many pairs there are among the first n alternatives of which one is over the other
abbrev pub decided_among : Square → ℕ → ℕ
decided_among r zero = 0
decided_among r (suc n) = count_below (is_decided r n) n + decided_among r n

-- how many of all pairs of different alternatives
abbrev pub decided_pairs : Square → ℕ
decided_pairs r = decided_among r (length r)

-- ---- what a relation may be

abbrev pub IsReflexive : Square → Type 0
IsReflexive r = (a : ℕ) → a < length r → holds r a a ≡ true

abbrev pub IsTransitive : Square → Type 0
IsTransitive r = (a b c : ℕ) → holds r a b ≡ true → holds r b c ≡ true → holds r a c ≡ true

-- ---- paths

-- a path of n steps more than one from the one to the other, each step as the relation has it
abbrev pub PathOf : (ℕ → ℕ → Type 0) → ℕ → ℕ → ℕ → Type 0
PathOf S zero a b = S a b
PathOf S (suc n) a b = (c : ℕ) × S a c × PathOf S n c b

-- a path of one step or more: the transitive closure
abbrev pub Path : (ℕ → ℕ → Type 0) → ℕ → ℕ → Type 0
Path S a b = (n : ℕ) × PathOf S n a b

-- no path along the strict part comes back to where it began
abbrev pub IsAcyclic : Square → Type 0
IsAcyclic r = (a : ℕ) → Path (IsAbove r) a a → ⊥
