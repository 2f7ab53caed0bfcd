-- When each status of a run comes, and what the run writes, by the task that its words ask for and the chore of that task.
use Rattle.std.specs.Prelude.{◌≡◌, ◌≢◌, ℕ, ◌<◌, ◌≤◌, ◌⊎◌, Bool, List, [], length, Option, Some, None}
use Rattle.ror_io.specs.Files.{Files}
use Rattle.ror_io.specs.Counts.{Rose, DidNotRise, next_count, count_after}
use Rattle.ror_io.specs.Writing.{Grew, GrewShort}
use Rattle.ror_frame.specs.declared.status.Status.{Status}
use Rattle.ror_frame.specs.declared.status.Status.TheVariants as statuses
use Rattle.ror_frame.specs.declared.stop.Refusal.{Refusal}
use Rattle.ror_frame.specs.States.{ShelfState, SinkState}
use Rattle.ror_frame.specs.Stops.{Outcome, outcome_of, refused_status, HidesNone}
use Rattle.ror_frame.specs.Courses.{Chore, Ending, done, Leads, Ends, MayRefuse, IsFirstMissing, OfToldFiles, Writes, EndsAfter, LacksOne, LacksFirst}

-- the names of the files that a task has
abbrev pub files_named : {Task : Type 0} → (Task → Chore) → Option Task → List (List ℕ)
files_named chore_of (Some task) = (chore_of task).files
files_named chore_of None = []

-- a shelf that tells its files, and whose count did not rise, is of files that lead to the status, want of memory aside
abbrev pub ShowsFiles : {Task : Type 0} → (Task → Chore) → Option Files → ℕ → ℕ → Option Task → Status → Type 0
ShowsFiles {Task} chore_of told before now asked status =
    (files : Files) (task : Task) → told ≡ Some files → asked ≡ Some task
    → DidNotRise before now → status ≢ statuses.Memory
    → (e : Ending) × Leads files (chore_of task).course e × Ends e (outcome_of status)

-- and what those files lead to decides the status
abbrev pub DecidesStatus : {Task : Type 0} → (Task → Chore) → Option Files → ℕ → ℕ → Option Task → Status → Type 0
DecidesStatus {Task} chore_of told before now asked status =
    (files : Files) (task : Task) → told ≡ Some files → asked ≡ Some task
    → DidNotRise before now → status ≢ statuses.Memory
    → (e : Ending) → Leads files (chore_of task).course e → Ends e (outcome_of status)

-- and where they lead to an output, and no write fails, the work is done, want of memory aside
abbrev pub IsCompleted : {Task : Type 0} → (Task → Chore) → Option Files → ℕ → ℕ → ℕ → ℕ → Option Task → Status → Type 0
IsCompleted {Task} chore_of told before now old new asked status =
    (files : Files) (task : Task) (tells : Option Bool) → told ≡ Some files → asked ≡ Some task
    → DidNotRise before now → DidNotRise old new → Leads files (chore_of task).course (done tells)
    → (status ≡ statuses.Done) ⊎ (status ≡ statuses.DoneWide) ⊎ (status ≡ statuses.Memory)

-- by what the words ask for, where it is told
abbrev pub WritesBy : {Task : Type 0} → (Task → Chore) → Option Files → ℕ → ℕ → Option Task → Option (List ℕ)
    → Option (List ℕ) → Option Outcome → Type 0
WritesBy chore_of told before now (Some task) old new (Some outcome) =
    Writes told before now (chore_of task).course old new outcome
WritesBy chore_of told before now asked old new outcome = new ≡ old

-- What is written on standard error, where it is told: the text, or a proper beginning of it where its own count rose.
abbrev pub Says : ℕ → ℕ → Option (List ℕ) → Option (List ℕ) → List ℕ → Type 0
Says before now old new text =
    ((now ≡ before) × Grew old new text) ⊎ (Rose before now × GrewShort old new text)

-- How a run whose words ask for this, or for nothing, ends with the status: what the shelf and standard output told before it, and
-- what they tell then.
pub record IsRunBy {Task : Type 0} (chore_of : Task → Chore) (asked : Option Task) (before now : ShelfState)
    (old new : SinkState) (status : Status) : Type 0 where
  -- Usage is that the words ask for nothing; where they do, it comes unless memory ran out before.
  pub usage : status ≡ statuses.Usage → asked ≡ None
  pub unasked : asked ≡ None → (status ≡ statuses.Usage) ⊎ (status ≡ statuses.Memory)
  -- faults of the outside come only with a cause, and a count that rose decides the status
  pub read_fault : status ≡ statuses.ReadFault → Rose before.faults now.faults
      ⊎ LacksOne before.told (files_named chore_of asked)
  pub write_fault : status ≡ statuses.WriteFault → Rose old.faults new.faults
  pub shelf_rose : before.faults < now.faults → status ≡ statuses.ReadFault
  pub out_rose : old.faults < new.faults → status ≡ statuses.WriteFault
  pub shelf_never_falls : before.faults ≤ now.faults
  pub out_never_falls : old.faults ≤ new.faults
  pub told_stays : now.told ≡ before.told
  pub fetched : (n : ℕ) × EndsAfter 0 (length (files_named chore_of asked)) (outcome_of status) n
      × (now.fetches ≡ count_after n before.fetches)
  -- Whatever the counts are: the work is not done without one of the files that the words name, and ends at once without the first
  -- of them, which is the table, where memory did not run out before. Want of memory is a status of its own, and no other one
  -- holds it.
  pub lacking : LacksOne before.told (files_named chore_of asked)
      → (status ≢ statuses.Done) × (status ≢ statuses.DoneWide)
  pub no_table : LacksFirst before.told (files_named chore_of asked)
      → ((status ≡ statuses.ReadFault) × (now.fetches ≡ next_count before.fetches))
      ⊎ ((status ≡ statuses.Memory) × (now.fetches ≡ before.fetches))
  pub pure : (refusal : Refusal) → status ≡ refused_status refusal → HidesNone refusal
  -- a file that isn't there is the last that is fetched
  pub ends_at_missing : status ≡ statuses.ReadFault → OfToldFiles before.told before.faults now.faults
      (λ files. (n : ℕ) × IsFirstMissing files (files_named chore_of asked) n × (now.fetches ≡ count_after n before.fetches))
  -- the refusal is one of the task's own
  pub refuses : (refusal : Refusal) → status ≡ refused_status refusal
      → (task : Task) × (asked ≡ Some task) × MayRefuse refusal (chore_of task).course
  -- what the files lead to, which is one thing, and decides the status
  pub shows : ShowsFiles chore_of before.told before.faults now.faults asked status
  pub decided : DecidesStatus chore_of before.told before.faults now.faults asked status
  pub completes : IsCompleted chore_of before.told before.faults now.faults old.faults new.faults asked status
  pub one_ending : (files : Files) (task : Task) (d e : Ending) → asked ≡ Some task
      → Leads files (chore_of task).course d → Leads files (chore_of task).course e → d ≡ e
  pub output : WritesBy chore_of before.told before.faults now.faults asked old.written new.written
      (outcome_of status)
