use Rattle.ror_frame.specs.Stops.{last}
use Rattle.std.proofs.lemmas.Result.{err_from_is_err_and}
use Rattle.ror_confidence.specs.Levels.{level_lists}
use Rattle.ror_frame.proofs.FetchLemmas.{stopped_there, short_report, judged_report}
use Rattle.ror_work_levels.specs.Steps.{ProvesOver, RejectsOver}
use Rattle.ror_work_levels.proofs.Judging.{long_report}
use Rattle.ror_work_levels.proofs.check.fetch_spans.Goals as goal

pub returns-in_err-bytes : goal.returns-in_err-bytes
returns-in_err-bytes g c =
    let p = err_from_is_err_and c.from_residual.result c.from_residual.ensures.1 in
    rw (p.1, p.2) (stopped_there _ last _ _ _ _ _ _ _ (long_report c.args.bench.table (level_lists c.args.standing.now c.args.levels.now)) c.in_err-bytes.ensures)

pub spans_in-requires-clause-within : goal.spans_in-requires-clause-within
spans_in-requires-clause-within g c = short_report _ c.as_slice.result.now _ _ _ c.in_ok-bytes.bytes c.as_slice.ensures.value c.in_ok-bytes.ensures

pub returns : goal.returns
returns g c =
    let lists = level_lists c.args.standing.now c.args.levels.now in
    judged_report _ _ _ (ProvesOver c.args.bench.table lists) (RejectsOver c.args.bench.table lists) _ _ c.in_ok-bytes.bytes _ c.as_slice.ensures.value c.in_ok-bytes.ensures c.spans_in.ensures
