-- The calls that were made, and those that are to fail, by their numbers from 1 on.
use Rattle.std.specs.Prelude.{ℕ, ◌+◌, List, [], ◌∷◌, ◌++◌, Contains, nat_le, if◌then◌else◌}
use Rattle.ror_io.specs.Counts.{next_count}

-- the numbers of the calls that are to fail, and how many calls were made
pub record Calls : Type 0 where
  pub failing : List ℕ
  pub made : ℕ

-- no call was made, and none is to fail
abbrev pub no_calls : Calls
no_calls = record { failing = []; made = 0 }

-- the next call is to fail
abbrev pub FailsNext : Calls → Type 0
FailsNext calls = Contains calls.failing (calls.made + 1)

-- one more call was made
abbrev pub after_call : Calls → Calls
after_call calls = record calls { made = next_count calls.made }

-- the call of this number is to fail too, unless it was made already
abbrev pub with_failing : Calls → ℕ → Calls
with_failing calls number =
    if nat_le number calls.made then calls else record calls { failing = calls.failing ++ number ∷ [] }
