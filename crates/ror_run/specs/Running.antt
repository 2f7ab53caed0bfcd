-- When each status of a run comes, and what the run writes.
use Rattle.std.specs.Prelude.{◌≡◌, ℕ, true, List, Some, None}
use Rattle.ror_confidence.specs.declared.fault.LevelsFault.{LevelsFault}
use Rattle.ror_bench.specs.declared.report.Rejection.{Rejection}
use Rattle.ror_frame.specs.declared.status.Status.{Status}
use Rattle.ror_frame.specs.declared.status.Status.TheVariants as statuses
use Rattle.ror_frame.specs.States.{ShelfState, SinkState}
use Rattle.ror_words.specs.Words.{Task, task_of}
use Rattle.ror_frame.specs.Runs.{IsRunBy}
use Rattle.ror_run.specs.Chores.{chore_of, judges, wants_suited, wants_levels}

-- How a run over the words ends with the status: what the shelf and standard output told before it, and what they tell then.
pub record IsRun (words : List (List ℕ)) (before now : ShelfState) (old new : SinkState)
    (status : Status) : Type 0 where
  -- as for any words: by what these ask for
  pub by : IsRunBy chore_of (task_of words) before now old new status
  -- Words that ask for nothing are told so whatever memory there is: that status is usage, and by the above no other one is.
  pub usage : task_of words ≡ None → status ≡ statuses.Usage
  -- Only a command that judges a report rejects, only one that wants suited sessions finds a line unsuited, and only one that reads
  -- levels finds them bad.
  pub rejects : (rejection : Rejection) → status ≡ statuses.Rejected rejection
      → (task : Task) × (task_of words ≡ Some task) × (judges task.command ≡ true)
  pub suits : (line : ℕ) → status ≡ statuses.Unsuited line
      → (task : Task) × (task_of words ≡ Some task) × (wants_suited task.command ≡ true)
  pub levels : (fault : LevelsFault) → status ≡ statuses.BadLevels fault
      → (task : Task) × (task_of words ≡ Some task) × (wants_levels task.command ≡ true)
