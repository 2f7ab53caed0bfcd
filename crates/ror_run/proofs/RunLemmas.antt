-- How a run ends by what came of the work.
use Rattle.std.proofs.Common.{◌≡◌, ℕ, List, Some, None, Err, refl}
use Rattle.ror_frame.specs.declared.status.Status.TheVariants as statuses
use Rattle.ror_frame.specs.declared.stop.Refusal.TheVariants as refusals
use Rattle.ror_frame.specs.declared.stop.Stop.TheVariants as stops
use Rattle.ror_frame.specs.States.{ShelfState, SinkState}
use Rattle.ror_frame.specs.Stops.{Outcome, status_after}
use Rattle.ror_frame.specs.Courses.{IsWork}
use Rattle.ror_words.specs.Words.{Task, task_of}
use Rattle.ror_frame.proofs.AnyRun as any
use Rattle.ror_frame.proofs.AnyRun.{told_by}
use Rattle.ror_run.specs.Chores.{chore_of}
use Rattle.ror_run.specs.Running.{IsRun}
use Rattle.ror_run.proofs.ChoreLemmas.{decided_chore, judges_it, suits_it, levels_it}

-- the words ask for the task: the run is the work on it
pub worked_run : (words : List (List ℕ)) (task : Task) (before now : ShelfState) (old new : SinkState) (o : Outcome) → task_of words ≡ Some task → IsWork 0 (chore_of task).files (chore_of task).course before now old new o → IsRun words before now old new (status_after o)
worked_run words task before now old new o is work = record {
  by = any.worked_run chore_of (task_of words) task before now old new o is (decided_chore task.command task.given) work;
  usage = λ none. absurd cc;
  rejects = λ n refused. (task, is, judges_it task.command task.given n (work.refuses (refusals.Rejected n) (told_by o (Err (stops.At (refusals.Rejected n))) _ refused refl)));
  suits = λ line refused. (task, is, suits_it task.command task.given line (work.refuses (refusals.Unsuited line) (told_by o (Err (stops.At (refusals.Unsuited line))) _ refused refl)));
  levels = λ fault refused. (task, is, levels_it task.command task.given fault (work.refuses (refusals.BadLevels fault) (told_by o (Err (stops.At (refusals.BadLevels fault))) _ refused refl)));
}

-- the words ask for nothing: nothing is fetched or written
pub usage_run : (words : List (List ℕ)) (shelf : ShelfState) (out : SinkState) → task_of words ≡ None → IsRun words shelf shelf out out statuses.Usage
usage_run words shelf out none = record {
  by = any.usage_run chore_of (task_of words) shelf out none;
  usage = λ none. refl;
  rejects = λ n refused. absurd cc;
  suits = λ line refused. absurd cc;
  levels = λ fault refused. absurd cc;
}
