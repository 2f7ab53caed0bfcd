-- What the answers of a fetch say.
use Rattle.std.specs.Prelude.{◌≡◌, ℕ, ◌<◌, ◌≤◌, List, length, Result, Ok, Err}
use Rattle.ror_io.specs.declared.shelf.Fetched.{Fetched}
use Rattle.ror_io.specs.declared.shelf.Fetched.TheVariants.{Whole, Longer}
use Rattle.ror_io.specs.declared.shelf.ShelfFault.{ShelfFault}
use Rattle.ror_io.specs.declared.shelf.ShelfFault.TheVariants.{Failed, Memory}

-- P where the answer is `Failed`
abbrev pub OnFailed : Result Fetched ShelfFault → Type 0 → Type 0
OnFailed (Ok fetched) P = Unit {0}
OnFailed (Err Failed) P = P
OnFailed (Err Memory) P = Unit {0}

-- P where the answer is another one
abbrev pub UnlessFailed : Result Fetched ShelfFault → Type 0 → Type 0
UnlessFailed (Ok fetched) P = P
UnlessFailed (Err Failed) P = Unit {0}
UnlessFailed (Err Memory) P = P

-- what was fetched whole has no more bytes than were allowed
abbrev pub IsNoLonger : ℕ → Fetched → Type 0
IsNoLonger most (Whole got) = length got.items ≤ most
IsNoLonger most Longer = Unit {0}

-- these bytes were fetched whole, or are more than were allowed
abbrev pub Fetches : List ℕ → ℕ → Fetched → Type 0
Fetches bytes most (Whole got) = (got.items ≡ bytes) × (length bytes ≤ most)
Fetches bytes most Longer = most < length bytes
