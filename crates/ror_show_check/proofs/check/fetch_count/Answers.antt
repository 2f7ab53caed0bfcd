use Rattle.std.proofs.lemmas.Result.{err_from_is_err_and}
use Rattle.ror_frame.specs.Stops.{last}
use Rattle.ror_frame.proofs.FetchLemmas.{stopped_there, short_report, judged_report}
use Rattle.ror_show_check.specs.Checking.{ProvesCertificates, RefusesEither}
use Rattle.ror_show_check.proofs.Checking.{too_long_report}
use Rattle.ror_show_check.proofs.check.fetch_count.Goals as goal

pub returns-in_err-bytes : goal.returns-in_err-bytes
returns-in_err-bytes g c =
    let p = err_from_is_err_and c.from_residual.result c.from_residual.ensures.1 in
    rw (p.1, p.2) (stopped_there _ last _ _ _ _ _ _ _ (too_long_report c.args.input c.args.session.now c.args.text) c.in_err-bytes.ensures)

pub count_in-requires-clause-within : goal.count_in-requires-clause-within
count_in-requires-clause-within g c = short_report _ c.as_slice.result.now _ _ _ c.in_ok-bytes.bytes c.as_slice.ensures.value c.in_ok-bytes.ensures

pub returns : goal.returns
returns g c =
    judged_report _ _ _ (ProvesCertificates c.args.input c.args.session.now c.args.text) (RefusesEither c.args.input c.args.session.now c.args.text) _ _ c.in_ok-bytes.bytes _ c.as_slice.ensures.value c.in_ok-bytes.ensures c.count_in.ensures
