use Rattle.std.proofs.Common.{sym, subst, List, ℕ, ◌≤◌, length, ◌≡◌, ◌∙◌}
use Rattle.std.proofs.lemmas.Result.{err_from_is_err_and}
use Rattle.ror_bench.specs.declared.report.TheConstants.{MOST_REPORT_BYTES}
use Rattle.ror_frame.specs.Courses.{ReadAs}
use Rattle.ror_frame.specs.Stops.{last}
use Rattle.ror_frame.proofs.FetchLemmas.{stopped_there, read_there}
use Rattle.ror_work.specs.Checking.{RefusesReport}
use Rattle.ror_work.proofs.Judging.{long_report}
use Rattle.ror_show_pages.specs.Reads.{ReadsKept}
use Rattle.ror_show_run.proofs.report.fetch_kept.Goals as goal

pub returns-in_err-bytes-clause-fetch : goal.returns-in_err-bytes-clause-fetch
returns-in_err-bytes-clause-fetch g c =
    let p = err_from_is_err_and c.from_residual.result c.from_residual.ensures.1 in
    λ i held. rw (p.1, p.2) (stopped_there _ last _ _ _ _ _ _ _ (long_report i c.args.session.now) c.in_err-bytes.ensures)

pub kept_in-requires-clause-within : goal.kept_in-requires-clause-within
kept_in-requires-clause-within g c =
    let fetched = c.in_ok-bytes.ensures.fetched in
    let same : c.as_slice.result.now ≡ fetched.1 = c.as_slice.ensures.value ∙ fetched.3.0 in
    subst (λ (bytes : List ℕ). length bytes ≤ MOST_REPORT_BYTES) (sym same) fetched.3.1

pub returns-clause-fetch : goal.returns-clause-fetch
returns-clause-fetch g c = λ i held.
    read_there _ last MOST_REPORT_BYTES _ _ _ _ _ c.in_ok-bytes.bytes _ c.in_ok-bytes.ensures (subst (λ (bytes : List ℕ). ReadAs last (ReadsKept c.args.keep.now i c.args.session.now) (RefusesReport i c.args.session.now) bytes c.kept_in.result) c.as_slice.ensures.value (c.kept_in.ensures.read i held))
