use Rattle.std.proofs.lemmas.Result.{err_from_is_err_and}
use Rattle.ror_frame.specs.Stops.{last}
use Rattle.ror_frame.proofs.FetchLemmas.{stopped_there, short_report, judged_report}
use Rattle.ror_work_group.specs.Group.{KeepsGroup, RefusesGroup}
use Rattle.ror_work_group.proofs.Judging.{long_group}
use Rattle.ror_show_run.proofs.group.fetch_entries.Goals as goal

pub returns-in_err-bytes : goal.returns-in_err-bytes
returns-in_err-bytes g c =
    let p = err_from_is_err_and c.from_residual.result c.from_residual.ensures.1 in
    λ i table closing. rw (p.1, p.2) (stopped_there _ last _ _ (KeepsGroup i c.args.session.now) (RefusesGroup i c.args.session.now) _ _ _ (long_group i c.args.session.now) c.in_err-bytes.ensures)

pub keep_group-requires-clause-within : goal.keep_group-requires-clause-within
keep_group-requires-clause-within g c = short_report _ c.as_slice.result.now _ _ _ c.in_ok-bytes.bytes c.as_slice.ensures.value c.in_ok-bytes.ensures

pub returns : goal.returns
returns g c = λ i table closing.
    judged_report _ _ _ (KeepsGroup i c.args.session.now) (RefusesGroup i c.args.session.now) _ _ c.in_ok-bytes.bytes c.keep_group.result c.as_slice.ensures.value c.in_ok-bytes.ensures (c.keep_group.ensures i table closing)
