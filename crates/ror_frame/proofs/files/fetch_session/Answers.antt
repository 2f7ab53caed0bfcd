use Rattle.std.proofs.lemmas.Result.{err_from_is_err_and}
use Rattle.ror_frame.specs.Stops.{counted}
use Rattle.ror_frame.proofs.FetchLemmas.{stopped_there}
use Rattle.ror_frame.proofs.InputLemmas.{long_session}
use Rattle.ror_frame.proofs.files.fetch_session.Goals as goal

pub returns-in_err-bytes-clause-fetch : goal.returns-in_err-bytes-clause-fetch
returns-in_err-bytes-clause-fetch g c =
    let p = err_from_is_err_and c.from_residual.result c.from_residual.ensures.1 in
    rw (p.1, p.2) (stopped_there _ (counted 2) _ _ _ _ _ _ _ long_session c.in_err-bytes.ensures)
