-- What a command does: which files it fetches, what their bytes lead to, and what it writes. Nothing here names a command.
use Rattle.std.specs.Prelude.{◌≡◌, ◌≢◌, ℕ, ◌+◌, ◌<◌, ◌≤◌, ◌⊎◌, Bool, true, List, [], ◌∷◌, length, take, Option, Some, None, Result, Ok, Err, IsErr}
use Rattle.ror_io.specs.Files.{Files, file, Lacks}
use Rattle.ror_io.specs.Counts.{Rose, DidNotRise, next_count, count_after}
use Rattle.ror_io.specs.Writing.{Grew, GrewShort}
use Rattle.std.specs.declared.vec.Vec.{Vec}
use Rattle.ror_frame.specs.declared.stop.Refusal.{Refusal}
use Rattle.ror_frame.specs.declared.stop.Stop.{Stop}
use Rattle.ror_frame.specs.declared.stop.Stop.TheVariants as stops
use Rattle.ror_frame.specs.States.{ShelfState, SinkState}
use Rattle.ror_frame.specs.Stops.{Outcome, FilePlace, IsPlace, place_of, HidesNone}

-- What a command writes: the texts that it may write where it is done, with whether anything is too wide; those of which a front
-- may stand there where a write failed; and whether one may where memory ran out. `tells` is whether anything is too wide, where
-- the files decide that.
pub record Output : Type 1 where
  pub tells : Option Bool
  pub Whole : Bool → List ℕ → Type 0
  pub Begun : List ℕ → Type 0
  pub keeps_front : Bool

-- What a command does: it writes an output, or fetches the file of a name first. Its bytes are read as some x, and it goes on by
-- these, or they are refused.
pub data Course : Type 1 where
  finish : Output → Course
  fetch : (A : Type 0) → List ℕ → (List ℕ → A → Type 0) → (List ℕ → Refusal → Type 0) → (List ℕ → A → Course) → Course

-- a command, with the names of all files that it fetches, in order
pub record Chore : Type 1 where
  pub files : List (List ℕ)
  pub course : Course

-- ---- what the files lead to

-- a file is missing, the bytes of one are refused, or an output is due
pub data Ending : Type 0 where
  missing : Ending
  refused : Refusal → Ending
  done : Option Bool → Ending

abbrev pub Leads : Files → Course → Ending → Type 0
Leads files (finish output) ending = ending ≡ done output.tells
Leads files (fetch A name Reads Refuses next) ending = ((file files name ≡ None) × (ending ≡ missing))
    ⊎ ((bytes : List ℕ) × (file files name ≡ Some bytes)
    × (((r : Refusal) × Refuses bytes r × (ending ≡ refused r))
    ⊎ ((x : A) × Reads bytes x × Leads files (next bytes x) ending)))

abbrev pub Agrees : Option Bool → Bool → Type 0
Agrees None wide = Unit {0}
Agrees (Some told) wide = wide ≡ told

-- the outcome is that of the ending, though a write may fail
abbrev pub Ends : Ending → Option Outcome → Type 0
Ends missing outcome = outcome ≡ Some (Err stops.ReadFault)
Ends (refused r) outcome = outcome ≡ Some (Err (stops.At r))
Ends (done told) (Some (Ok wide)) = Agrees told wide
Ends (done told) (Some (Err stops.WriteFault)) = Unit {0}
Ends (done told) _ = ⊥

-- for some bytes of its files the course is refused so
abbrev pub MayRefuse : Refusal → Course → Type 0
MayRefuse r (finish output) = ⊥
MayRefuse r (fetch A name Reads Refuses next) = ((bytes : List ℕ) × Refuses bytes r)
    ⊎ ((bytes : List ℕ) × (x : A) × Reads bytes x × MayRefuse r (next bytes x))

-- ---- what is written

-- P of the files, where they are told and the count of faults did not rise
abbrev pub OfToldFiles : Option Files → ℕ → ℕ → (Files → Type 0) → Type 0
OfToldFiles told before now P =
    (files : Files) → told ≡ Some files → DidNotRise before now → P files

-- P of the output that bytes lead to, which are those of the files where these are told
abbrev pub Reaches : Option Files → ℕ → ℕ → Course → (Output → Type 0) → Type 0
Reaches told before now (finish output) P = P output
Reaches told before now (fetch A name Reads Refuses next) P = (bytes : List ℕ)
    × OfToldFiles told before now (λ files. file files name ≡ Some bytes)
    × (x : A) × Reads bytes x × Reaches told before now (next bytes x) P

-- By the outcome, where it is told: the whole of an output, a proper front of one that was begun where a write failed, and nothing
-- under any other; but where memory ran out some front may stand there of an output that keeps one.
abbrev pub Writes : Option Files → ℕ → ℕ → Course → Option (List ℕ) → Option (List ℕ) → Outcome → Type 0
Writes told before now course old new (Ok wide) =
    Reaches told before now course (λ output. (text : List ℕ) × output.Whole wide text × Grew old new text)
Writes told before now course old new (Err stops.WriteFault) =
    Reaches told before now course (λ output. (text : List ℕ) × output.Begun text × GrewShort old new text)
Writes told before now course old new (Err stops.Memory) = (new ≡ old)
    ⊎ Reaches told before now course (λ output. (output.keeps_front ≡ true)
    × (text : List ℕ) × (n : ℕ) × output.Begun text × Grew old new (take n text))
Writes told before now course old new (Err stop) = new ≡ old

-- the count of faults of standard output rises where a write failed, and nowhere else
abbrev pub CountsWrites : ℕ → ℕ → Outcome → Type 0
CountsWrites before now (Err stops.WriteFault) = (before ≤ now) × Rose before now
CountsWrites before now outcome = now ≡ before

-- ---- how many files are fetched

-- So many files are fetched after the first ones, where all have so many names: up to the one whose bytes are refused, at least
-- one where one could not be read, any number where memory ran out, and all where the work was done or a write failed.
abbrev pub EndsAfter : ℕ → ℕ → Option Outcome → ℕ → Type 0
EndsAfter first all (Some (Err (stops.At r))) n = IsPlace (place_of r) (first + n) (first + all) × (n ≤ all)
EndsAfter first all (Some (Err stops.ReadFault)) n = (1 ≤ n) × (n ≤ all)
EndsAfter first all (Some (Err stops.Memory)) n = n ≤ all
EndsAfter first all outcome n = n ≡ all

-- the file that is named in this place, counted from 1, is missing, and those named before it are there
abbrev pub IsFirstMissing : Files → List (List ℕ) → ℕ → Type 0
IsFirstMissing files [] n = ⊥
IsFirstMissing files (name ∷ names) n = ((file files name ≡ None) × (n ≡ 1))
    ⊎ ((bytes : List ℕ) × (file files name ≡ Some bytes) × (m : ℕ) × (n ≡ m + 1) × IsFirstMissing files names m)

-- a told map lacks one of the files; lacks the first
abbrev pub LacksOne : Option Files → List (List ℕ) → Type 0
LacksOne told [] = ⊥
LacksOne told (name ∷ names) = Lacks told name ⊎ LacksOne told names

abbrev pub LacksFirst : Option Files → List (List ℕ) → Type 0
LacksFirst told [] = ⊥
LacksFirst told (name ∷ names) = Lacks told name

-- no refusal holds a want of memory inside
abbrev pub IsPure : Outcome → Type 0
IsPure (Err (stops.At r)) = HidesNone r
IsPure outcome = Unit {0}

-- ---- steps of the work

-- what came of fetching a file and reading its bytes
abbrev pub Fetched : {A : Type 0} → List ℕ → FilePlace → (List ℕ → A → Type 0) → (List ℕ → Refusal → Type 0)
    → Option Files → ℕ → ℕ → Result A Stop → Type 0
Fetched name place Reads Refuses told before now (Ok x) = (now ≡ before) × (bytes : List ℕ)
    × OfToldFiles told before now (λ files. file files name ≡ Some bytes) × Reads bytes x
Fetched name place Reads Refuses told before now (Err (stops.At r)) = (now ≡ before) × (place_of r ≡ place)
    × HidesNone r × ((bytes : List ℕ) × Refuses bytes r)
    × OfToldFiles told before now (λ files. (bytes : List ℕ) × (file files name ≡ Some bytes) × Refuses bytes r)
Fetched name place Reads Refuses told before now (Err stops.ReadFault) = Rose before now ⊎ Lacks told name
Fetched name place Reads Refuses told before now (Err stops.WriteFault) = ⊥
Fetched name place Reads Refuses told before now (Err stops.Memory) = now ≡ before

-- Fetching the file of this name, the one at this place among those of the command, and reading it: what the shelf was and is, and what came of it.
pub record IsFetch {A : Type 0} (name : List ℕ) (place : FilePlace) (Reads : List ℕ → A → Type 0)
    (Refuses : List ℕ → Refusal → Type 0) (before now : ShelfState) (result : Result A Stop) : Type 0 where
  pub never_falls : before.faults ≤ now.faults
  pub told_stays : now.told ≡ before.told
  pub counted : now.fetches ≡ next_count before.fetches
  pub missing : Lacks before.told name → result ≡ Err stops.ReadFault
  pub fetched : Fetched name place Reads Refuses before.told before.faults now.faults result

-- the bytes were fetched whole; are too many, and so refused for this
abbrev pub IsWhole : {Y : Type 0} → ℕ → List ℕ → Vec ℕ Y → Type 0
IsWhole most bytes got = (got.items ≡ bytes) × (length bytes ≤ most)

abbrev pub IsTooLong : ℕ → Refusal → List ℕ → Refusal → Type 0
IsTooLong most why bytes r = (r ≡ why) × (most < length bytes)

-- what came of reading bytes
abbrev pub ReadAs : {A : Type 0} → FilePlace → (List ℕ → A → Type 0) → (List ℕ → Refusal → Type 0) → List ℕ
    → Result A Stop → Type 0
ReadAs place Reads Refuses bytes (Ok x) = Reads bytes x
ReadAs place Reads Refuses bytes (Err (stops.At r)) = (place_of r ≡ place) × HidesNone r × Refuses bytes r
ReadAs place Reads Refuses bytes (Err stops.Memory) = Unit {0}
ReadAs place Reads Refuses bytes (Err stop) = ⊥

-- what came of writing an output
abbrev pub WritesDue : Output → SinkState → SinkState → Outcome → Type 0
WritesDue output old new (Ok wide) = (new.faults ≡ old.faults) × Agrees output.tells wide
    × (text : List ℕ) × output.Whole wide text × Grew old.written new.written text
WritesDue output old new (Err stops.WriteFault) = (old.faults ≤ new.faults)
    × Rose old.faults new.faults × (text : List ℕ) × output.Begun text × GrewShort old.written new.written text
WritesDue output old new (Err stops.Memory) = (new ≡ old)
    ⊎ ((new.faults ≡ old.faults) × (output.keeps_front ≡ true) × (text : List ℕ) × (n : ℕ)
    × output.Begun text × Grew old.written new.written (take n text))
WritesDue output old new (Err stop) = ⊥

-- The work of a course, before which so many files were fetched: what the shelf and standard output were and are, and what came
-- of it.
pub record IsWork (first : ℕ) (names : List (List ℕ)) (course : Course) (before now : ShelfState) (old new : SinkState)
    (outcome : Outcome) : Type 0 where
  pub never_falls : before.faults ≤ now.faults
  pub told_stays : now.told ≡ before.told
  pub fetched : (n : ℕ) × EndsAfter first (length names) (Some outcome) n × (now.fetches ≡ count_after n before.fetches)
  pub read_fault : outcome ≡ Err stops.ReadFault → Rose before.faults now.faults ⊎ LacksOne before.told names
  pub rose : before.faults < now.faults → outcome ≡ Err stops.ReadFault
  pub lacking : LacksOne before.told names → IsErr outcome
  pub first_lacking : LacksFirst before.told names
      → ((outcome ≡ Err stops.ReadFault) × (now.fetches ≡ next_count before.fetches))
      ⊎ ((outcome ≡ Err stops.Memory) × (now.fetches ≡ before.fetches))
  -- a file that isn't there is the last that is fetched
  pub ends_at_missing : outcome ≡ Err stops.ReadFault → OfToldFiles before.told before.faults now.faults
      (λ files. (n : ℕ) × IsFirstMissing files names n × (now.fetches ≡ count_after n before.fetches))
  pub refuses : (r : Refusal) → outcome ≡ Err (stops.At r) → MayRefuse r course
  pub pure : IsPure outcome
  pub shows : OfToldFiles before.told before.faults now.faults
      (λ files. outcome ≢ Err stops.Memory → (e : Ending) × Leads files course e × Ends e (Some outcome))
  pub writes : CountsWrites old.faults new.faults outcome
  pub output : Writes before.told before.faults now.faults course old.written new.written outcome
