use Rattle.std.proofs.Common.{rules, ◌≡◌, Some, map}
use Rattle.std.specs.String.{string_bytes}
use Rattle.ror_words.specs.Words.{task_with, task_of}
use Rattle.ror_words.specs.Named.{given_with, row_with}
use Rattle.ror_run.proofs.RunLemmas.{worked_run}
use Rattle.ror_run.proofs.running.status_of.Goals as goal

pub returns-in-Some : goal.returns-in-Some
returns-in-Some g c =
    let asked : task_of (map string_bytes c.args.words.now) ≡ Some (task_with (row_with c.in-Some.row) (given_with c.in-Some.arguments)) = search rules in
    record { run = rw c.after.ensures (worked_run _ (task_with (row_with c.in-Some.row) (given_with c.in-Some.arguments)) _ _ _ _ c.work_on.result asked c.work_on.ensures) }
