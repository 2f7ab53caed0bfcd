use Rattle.std.proofs.Common.{map}
use Rattle.std.specs.String.{string_bytes}
use Rattle.ror_frame.proofs.AnyRun.{worked_run, memory_run}
use Rattle.ror_show_words.specs.Words.{asked}
use Rattle.ror_show_words.specs.Named.{asked_with}
use Rattle.ror_show_run.specs.Chores.{chore_of}
use Rattle.ror_show_run.proofs.ChoreLemmas.{decided_chore}
use Rattle.ror_show_run.proofs.running.status_of.Goals as goal

pub returns-in-Ok : goal.returns-in-Ok
returns-in-Ok g c = record {
  run =
      let mine = asked_with c.in-Ok.asked in
      rw c.after.ensures (worked_run chore_of (asked (map string_bytes c.args.words.now)) mine _ _ _ _ c.work_on.result c.in-Ok.ensures (decided_chore mine) c.work_on.ensures);
}

pub returns-in-Err-Memory : goal.returns-in-Err-Memory
returns-in-Err-Memory g c = record { run = memory_run chore_of (asked (map string_bytes c.args.words.now)) _ _ decided_chore }
