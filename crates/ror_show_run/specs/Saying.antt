-- What stands on standard error: the line of the status, and what may help behind it.
use Rattle.std.specs.Prelude.{◌≡◌, ℕ, ◌⊎◌, Bool, true, false, List, [], ◌∷◌, Option, codes}
use Rattle.std.specs.Str.{bytes_eq}
use Rattle.ror_frame.specs.declared.status.Status.{Status}
use Rattle.ror_frame.specs.declared.status.Status.TheVariants as statuses
use Rattle.ror_io.specs.Counts.{Rose}
use Rattle.ror_io.specs.Writing.{Grew, GrewShort}
use Rattle.ror_show_advice.specs.Apart.{StandsApart}
use Rattle.ror_show_run.specs.Chores.{status_line}

-- the words are of an import
abbrev pub is_import : List (List ℕ) → Bool
is_import [] = false
is_import (word ∷ words) = bytes_eq word (codes "import")

-- where something may help: words that ask for nothing, a file that is refused, and one that isn't there; and an import tells how the
-- sheet was read
abbrev pub wants_help : List (List ℕ) → Status → Bool
wants_help words statuses.Usage = true
wants_help words (statuses.BadTable fault) = true
wants_help words (statuses.BadSession fault) = true
wants_help words (statuses.Rejected rejection) = true
wants_help words statuses.ReadFault = true
wants_help words statuses.Done = is_import words
wants_help words _ = false

-- where told, what stood is in front of what stands now, and what is behind it stands apart
abbrev pub GrowsApart : Option (List ℕ) → Option (List ℕ) → Type 0
GrowsApart before now = (text : List ℕ) × StandsApart text × Grew before now text

-- The status's line is written, and behind it what may help, apart, or a front of that where a write failed part way; or nothing, and no
-- fault is counted, where nothing may help.
pub record SaysWhole (words : List (List ℕ)) (status : Status) (before now : ℕ) (old new : Option (List ℕ)) : Type 0 where
  pub written : Option (List ℕ)
  pub line : Grew old written (status_line status)
  pub help : GrowsApart written new
  pub quiet : wants_help words status ≡ false → (now ≡ before) × (new ≡ written)

-- that, or a proper beginning of the line and nothing behind it, where the count of faults rose
abbrev pub SaysFirst : List (List ℕ) → Status → ℕ → ℕ → Option (List ℕ) → Option (List ℕ) → Type 0
SaysFirst words status before now old new =
    SaysWhole words status before now old new ⊎ (Rose before now × GrewShort old new (status_line status))
